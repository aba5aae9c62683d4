use Rattle.std.proofs.Common.{arith}
use Rattle.timing.proofs.RowPruning.{pruned_turn}
use Rattle.timing.proofs.signals.prune_row.Goals as goal

pub loop-turn-preserved : goal.loop-turn-preserved
loop-turn-preserved g c =
    let step = c.step_of_turn-step in
    pruned_turn g.S.Sense.order g.met.S.Sense.lawful g.met.S.Sense.late_or_early c.args.net step.result _ c.place.result _ _ _ _ _ step.ensures.fits step.ensures.turn c.place.ensures
    (omega (arith, c.requires, c.loop-turn.auto.signals)) c.loop-turn.invariant c.prune-worst.ensures
