use Rattle.models.specs.Kinds.{point_delay, point_output_step}
use Rattle.models.specs.Between.{interpolated_first}
use Rattle.models.proofs.interpolation.interpolate.Goals as goal

pub returns-clause-figures : goal.returns-clause-figures
returns-clause-figures c =
    let ps = c.args.points.now in
    let e = c.reaching-i.ensures in
    let delay = interpolated_first point_delay ps c.reaching-i.result c.args.step e.past_first e.within e.first e.above in
    let output = interpolated_first point_output_step ps c.reaching-i.result c.args.step e.past_first e.within e.first e.above in
    cc
