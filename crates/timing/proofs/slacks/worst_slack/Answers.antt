use Rattle.std.proofs.Common.{length, pos, refl, rules}
use borrow.Author.Tests.{tests}
use Rattle.std.proofs.lemmas.Iterator.{YieldsList-from_slice}
use Rattle.std.proofs.lemmas.Iterator.Consumers.{reduce_from_yields_List, YieldsList-from_filter_map}
use Rattle.timing.specs.Areas.{figure, slack_entry}
use Rattle.timing.proofs.LeastFigures.{lesser, least_figure}
use Rattle.timing.proofs.slacks.worst_slack.Goals as goal

pub returns : goal.returns
returns c =
    let slacks = c.args.slacks.now in
    least_figure figure (pos 0) slacks (slack_entry slacks) (length slacks) _ refl (λ n h. refl)
    (reduce_from_yields_List lesser _ c.min.result c.min.ensures.ran (YieldsList-from_filter_map _ figure (YieldsList-from_slice slacks (search rules)) c.filter_map.ensures.closure (λ x r q k. search (rules, tests))))
