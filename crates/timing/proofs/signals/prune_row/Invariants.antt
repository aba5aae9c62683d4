use Rattle.timing.specs.Areas.{record_at}
use Rattle.timing.proofs.RowPruning.{PrunedBefore}
use Rattle.timing.proofs.signals.prune_row.Given as goal

abbrev pub invariant-loop-turn : goal.invariant-loop-turn
invariant-loop-turn g l = PrunedBefore g.S.Sense.order l.net l.turn (record_at l.initial.signals) l.signals l.worst
