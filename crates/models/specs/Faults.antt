-- What each refusal of a model names: layer, number and place. Assumes nothing.
use Rattle.std.specs.Prelude.{ℕ, Bool, nat_le}
use Rattle.units.specs.declared.refusals.Refusal.{Refusal}
use Rattle.units.specs.declared.refusals.Layer.TheVariants.{Model}
use Rattle.units.specs.Refusals.{Row}
use Rattle.models.specs.Meaning.{max_kinds}
use Rattle.models.specs.declared.faults.ModelFault.{ModelFault}
use Rattle.models.specs.declared.faults.ModelFault.TheVariants.{KindsFull, PointCount, EndStep, StepOrder, DelayFalls, OutputStepFalls, OutputStepTooLarge, Percent}

abbrev pub model_refusal : ℕ → ℕ → Refusal
model_refusal n p = record { layer = Model; number = n; place = p }

-- a row of the model layer: its condition, number and place
abbrev pub row : Bool → ℕ → ℕ → Row
row b n p = record { holds = b; refusal = model_refusal n p }

abbrev pub refusal_of : ModelFault → Refusal
refusal_of KindsFull = model_refusal 1 max_kinds
refusal_of (PointCount count) = model_refusal 2 count
refusal_of (EndStep point) = model_refusal 3 point
refusal_of (StepOrder point) = model_refusal 4 point
refusal_of (DelayFalls point) = model_refusal 5 point
refusal_of (OutputStepFalls point) = model_refusal 6 point
refusal_of (OutputStepTooLarge point) = model_refusal 7 point
refusal_of (Percent percent) = model_refusal 8 percent

-- the model is full
abbrev pub full_row : ℕ → Row
full_row count = row (nat_le max_kinds count) 1 max_kinds
