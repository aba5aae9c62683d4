use Rattle.std.proofs.Common.{arith}
use Rattle.network.proofs.SortingSteps.{zeros_within, source_placed, source_skipped}
use Rattle.network.proofs.ordering.sources.Goals.{then-count-eq0, else-count-eq0}
use Rattle.network.proofs.ordering.sources.Goals as goal

pub push-requires : goal.push-requires
push-requires c = let few = zeros_within c.args.pending.now c.loop-source.source in let full = c.loop-source.invariant.full in (omega arith, omega (arith, c.requires))

pub loop-source-preserved : goal.loop-source-preserved
loop-source-preserved c =
    elim c.if-count-eq0.branch [
      | then-count-eq0 w ↦ rw (w.order-is, w.push.ensures.items) (source_placed _ _ _ w.if-count-eq0.true c.loop-source.invariant)
      | else-count-eq0 w ↦ rw w.order-is (source_skipped _ _ _ (omega (arith, w.if-count-eq0.false)) c.loop-source.invariant)
    ]
