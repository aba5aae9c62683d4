use Rattle.std.proofs.Common.{ℕ}
use Rattle.network.proofs.Releasing.{Releasing}
use Rattle.network.proofs.netlist.Netlist.release_heads.Given as goal

abbrev pub invariant-loop-i : goal.invariant-loop-i
invariant-loop-i l = (k : ℕ) × Releasing l.self.arcs.items l.at k l.net l.i-items l.i-index l.pending l.order.items
