-- The block that a netlist holds. Assumes nothing.
use Rattle.std.specs.Prelude.{vec_items}
use Rattle.paths.specs.Blocks.{Block}
use Rattle.network.specs.declared.netlist.Netlist.{Netlist}

abbrev pub netlist_block : Netlist → Block
netlist_block n = record { nets = vec_items n.nets; arcs = vec_items n.arcs }
