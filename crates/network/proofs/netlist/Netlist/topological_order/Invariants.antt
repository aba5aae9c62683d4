use Rattle.std.proofs.Common.{◌≡◌, ◌-◌, ◌≤◌, length}
use Rattle.network.specs.Sorting.{Sorting}
use Rattle.network.proofs.netlist.Netlist.topological_order.Given as goal

abbrev pub invariant-loop-at : goal.invariant-loop-at
invariant-loop-at l = record {
  within : l.at ≤ length l.order.items;
  count : length l.pending ≡ length l.self.nets.items;
  sorting : Sorting l.self.arcs.items l.at 0 l.pending l.order.items;
}

abbrev pub decreases-loop-at : goal.decreases-loop-at
decreases-loop-at l = length l.self.nets.items - l.at
