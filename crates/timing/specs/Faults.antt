-- What each refusal of a timing names: layer, number and place. Assumes nothing.
use Rattle.std.specs.Prelude.{ℕ, Bool}
use Rattle.units.specs.Refusals.{Row}
use Rattle.units.specs.declared.refusals.Refusal.{Refusal}
use Rattle.units.specs.declared.refusals.Layer.TheVariants.{Timing}
use Rattle.timing.specs.declared.faults.TimingFault.{TimingFault}
use Rattle.timing.specs.declared.faults.TimingFault.TheVariants.{AreaTooShort, KindNotHeld}

abbrev pub timing_refusal : ℕ → ℕ → Refusal
timing_refusal n p = record { layer = Timing; number = n; place = p }

-- a row of the timing layer: its condition, number and place
abbrev pub row : Bool → ℕ → ℕ → Row
row b n p = record { holds = b; refusal = timing_refusal n p }

abbrev pub refusal_of : TimingFault → Refusal
refusal_of (AreaTooShort area) = timing_refusal 22 area
refusal_of (KindNotHeld arc) = timing_refusal 23 arc
