-- What each refusal of a block file names: layer, number and place. Assumes nothing.
use Rattle.std.specs.Prelude.{ℕ}
use Rattle.units.specs.declared.refusals.Refusal.{Refusal}
use Rattle.units.specs.declared.refusals.Layer.TheVariants as layer
use Rattle.network.specs.Faults as draft
use Rattle.models.specs.Faults as model
use Rattle.blockfile.specs.declared.faults.ReaderFault.{ReaderFault}
use Rattle.blockfile.specs.declared.faults.ReaderFault.TheVariants.{Truncated, UnknownTag, UnknownBit, TransitionWithoutLaunch}
use Rattle.blockfile.specs.declared.faults.LoadCause.{LoadCause}
use Rattle.blockfile.specs.declared.faults.LoadCause.TheVariants.{Reader, Draft, Model}
use Rattle.blockfile.specs.declared.faults.LoadFault.{LoadFault}

abbrev pub reader_row : ℕ → ℕ → Refusal
reader_row n p = record { layer = layer.Reader; number = n; place = p }

abbrev pub reader_refusal : ReaderFault → Refusal
reader_refusal (Truncated len) = reader_row 24 len
reader_refusal (UnknownTag tag) = reader_row 25 tag
reader_refusal (UnknownBit map) = reader_row 26 map
reader_refusal (TransitionWithoutLaunch map) = reader_row 27 map

-- the refusal of the layer that refused
abbrev pub cause_refusal : LoadCause → Refusal
cause_refusal (Reader fault) = reader_refusal fault
cause_refusal (Draft fault) = draft.refusal_of fault
cause_refusal (Model fault) = model.refusal_of fault

abbrev pub refusal_of : LoadFault → Refusal
refusal_of fault = cause_refusal fault.cause
