use Rattle.network.specs.Sorting.{SourcesPlaced}
use Rattle.network.proofs.ordering.sources.Given as goal

abbrev pub invariant-loop-source : goal.invariant-loop-source
invariant-loop-source l = SourcesPlaced l.pending l.source l.order.items
