-- What each refusal of a draft names: layer, number and place. Assumes nothing.
use Rattle.std.specs.Prelude.{ℕ, Bool}
use Rattle.units.specs.declared.refusals.Refusal.{Refusal}
use Rattle.units.specs.declared.refusals.Layer.TheVariants.{Draft}
use Rattle.units.specs.Refusals.{Row}
use Rattle.network.specs.declared.faults.DraftFault.{DraftFault}
use Rattle.network.specs.declared.faults.DraftFault.TheVariants.{NetsFull, ArcsFull, NoSuchNet, LaunchTooLate, TransitionTooLong, LimitTooLarge, Cycle, KindTooLarge}

abbrev pub draft_refusal : ℕ → ℕ → Refusal
draft_refusal n p = record { layer = Draft; number = n; place = p }

-- a row of the draft layer: its condition, number and place
abbrev pub row : Bool → ℕ → ℕ → Row
row b n p = record { holds = b; refusal = draft_refusal n p }

abbrev pub refusal_of : DraftFault → Refusal
refusal_of NetsFull = draft_refusal 9 256
refusal_of ArcsFull = draft_refusal 10 1024
refusal_of (NoSuchNet net) = draft_refusal 11 net
refusal_of (LaunchTooLate time) = draft_refusal 12 time
refusal_of (TransitionTooLong transition) = draft_refusal 12 transition
refusal_of (LimitTooLarge value) = draft_refusal 12 value
refusal_of (Cycle net) = draft_refusal 13 net
refusal_of (KindTooLarge kind) = draft_refusal 15 kind
