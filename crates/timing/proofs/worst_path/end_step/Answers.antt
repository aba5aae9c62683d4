use Rattle.std.proofs.Common.{rules}
use borrow.Author.Tests.{tests}
use Rattle.std.proofs.lemmas.Iterator.{YieldsList-from_slice, IsFirst-from_position}
use Rattle.timing.proofs.PathEnds.{HasSlack, HasOther, row, first_step}
use Rattle.timing.proofs.worst_path.end_step.Goals as goal

pub returns : goal.returns
returns g c =
    let o = g.S.Sense.order in
    let signals = c.args.signals.now in
    let n = c.args.net in
    let limit = c.args.limit in
    let worst = c.args.worst in
    let found = IsFirst-from_position _ _ c.position.result (HasSlack o signals n limit worst c.requires) (HasOther o signals n limit worst c.requires) c.position.ensures.ran (YieldsList-from_slice (row o signals n limit worst c.requires) (search rules)) (λ x q k. search (rules, tests)) (λ x q k. search (rules, tests)) in
    first_step o signals n limit worst c.requires c.position.result c.map.result found (search rules)
