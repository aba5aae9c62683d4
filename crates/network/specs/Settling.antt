-- What settling makes of a draft. Assumes nothing.
use Rattle.std.specs.Prelude.{◌≡◌, length, None}
use Rattle.paths.specs.Blocks.{Block}
use Rattle.paths.specs.Cycles.{CycleAt, LeftIsReachable}
use Rattle.paths.specs.Orders.{Numbers, Once, TailsFirst, TopologicalOrder}
use Rattle.network.specs.declared.settled.Network.{Network}
use Rattle.network.specs.FanOuts.{FansOut}
use Rattle.network.specs.Netlists.{netlist_block}
use Rattle.network.specs.Sorting.{placed_nets}

-- the block that a settled network holds
abbrev pub network_block : Network → Block
network_block n = netlist_block n.netlist

pub record Settled (b : Block) (n : Network) : Type 0 where
  -- the same nets, launches, limits, arcs and kinds
  pub same : network_block n ≡ b
  -- whether there is a cycle, and at which net
  pub cycle_at : CycleAt b n.cycle
  -- the order holds nets of the block, each once and after the tails of all arcs into it
  pub numbers : Numbers (length b.nets) (placed_nets n.order)
  pub once : Once (placed_nets n.order)
  pub tails_first : TailsFirst b.arcs (placed_nets n.order)
  -- the nets that it does not hold are those on a cycle or reachable from one
  pub left_is_reachable : LeftIsReachable b (placed_nets n.order)
  -- so without a cycle it holds all nets; which of several topological orders it is, is free
  pub topological : n.cycle ≡ None → TopologicalOrder (length b.nets) b.arcs (placed_nets n.order)
  -- the arcs out of each net
  pub fans : FansOut b.arcs n.fan_out
