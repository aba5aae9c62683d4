-- What each refusal of a call on a settled block names: layer, number and place. Assumes nothing.
use Rattle.std.specs.Prelude.{ℕ}
use Rattle.units.specs.declared.refusals.Refusal.{Refusal}
use Rattle.units.specs.declared.refusals.Layer.TheVariants as layer
use Rattle.timing.specs.Faults as timing
use Rattle.block.specs.declared.faults.BlockFault.{BlockFault}
use Rattle.block.specs.declared.faults.BlockFault.TheVariants.{Cycle}
use Rattle.block.specs.declared.faults.TimeFault.{TimeFault}
use Rattle.block.specs.declared.faults.TimeFault.TheVariants.{Block, Timing}

abbrev pub block_refusal : ℕ → ℕ → Refusal
block_refusal n p = record { layer = layer.Block; number = n; place = p }

abbrev pub block_refusal_of : BlockFault → Refusal
block_refusal_of (Cycle net) = record { layer = layer.Block; number = 13; place = net }

abbrev pub refusal_of : TimeFault → Refusal
refusal_of (Block fault) = block_refusal_of fault
refusal_of (Timing fault) = timing.refusal_of fault
