use Rattle.std.proofs.Common.{ℤ, pos, Option, ap, rules}
use borrow.Author.Tests.{tests}
use Rattle.std.specs.List.{zip}
use Rattle.std.proofs.lemmas.Iterator.{YieldsList-from_slice, YieldsList-from_zip}
use Rattle.std.proofs.lemmas.Iterator.Consumers.{reduce_from_yields_List, YieldsList-from_filter_map}
use Rattle.units.specs.Steps.{step_count}
use Rattle.timing.specs.declared.answers.SignalRecord.{SignalRecord}
use Rattle.timing.specs.Areas.{no_signal, held_by, figure}
use Rattle.timing.specs.SlackFigures.{slack_figure, slack_of_entries}
use Rattle.timing.proofs.AreaParts.{row_of, rows_long, rows_at}
use Rattle.timing.proofs.LeastFigures.{lesser, least_figure}
use Rattle.timing.proofs.slacks.net_slack.Goals as goal

pub returns : goal.returns
returns g c =
    let n = c.args.net in
    let signals = c.args.signals.now in
    let required = c.args.required.now in
    let o = g.S.Sense.order in
    let slack : SignalRecord × ℤ → Option ℤ = λ p. slack_figure o (held_by p.0) (figure p.1) in
    least_figure slack (no_signal, pos 0) (zip (row_of signals n) (row_of required n)) (slack_of_entries o signals required n) step_count _ (rows_long signals required n c.requires.signals c.requires.required)
    (λ s h. ap slack (rows_at signals required n c.requires.signals c.requires.required s no_signal (pos 0) h))
    (reduce_from_yields_List lesser _ c.min.result c.min.ensures.ran
    (YieldsList-from_filter_map _ slack (YieldsList-from_zip (YieldsList-from_slice (row_of signals n) (search rules)) (YieldsList-from_slice (row_of required n) (search rules))) c.filter_map.ensures.closure (λ x r q k. search (rules, tests))))
