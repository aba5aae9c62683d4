-- What a delay model means, and the law of its meaning. Assumes nothing.
use Rattle.std.specs.Prelude.{◌≡◌, ℕ, ◌<◌, ◌≤◌, cond, nat_le, nat_lt}
use Rattle.units.specs.Senses.{NeverFalls}
use Rattle.units.specs.Steps.{last_step}

abbrev pub max_kinds : ℕ
max_kinds = 32

abbrev pub max_delay : ℕ
max_delay = 65535

-- the count of kinds, and for a kind and a step a delay and an output step
pub record Meaning : Type 0 where
  pub count : ℕ
  pub delay : ℕ → ℕ → ℕ
  pub output_step : ℕ → ℕ → ℕ

-- a figure of a kind at a step lies in its range, is 0 for a kind not held or a step past the last, and never falls
pub record LawfulFigure (count top : ℕ) (figure : ℕ → ℕ → ℕ) : Type 0 where
  pub fits : (kind step : ℕ) → figure kind step ≤ top
  pub not_held : (kind step : ℕ) → count ≤ kind → figure kind step ≡ 0
  pub past_last : (kind step : ℕ) → last_step < step → figure kind step ≡ 0
  pub never_falls : (kind : ℕ) → NeverFalls last_step (figure kind)

pub record Lawful (m : Meaning) : Type 0 where
  pub count_fits : m.count ≤ max_kinds
  pub delay : LawfulFigure m.count max_delay m.delay
  pub output_step : LawfulFigure m.count last_step m.output_step

-- the figure where the kind is held and the step is not past the last, else 0
abbrev pub where_held : ℕ → (ℕ → ℕ → ℕ) → ℕ → ℕ → ℕ
where_held count figure kind step = cond (nat_lt kind count) (cond (nat_le step last_step) (figure kind step) 0) 0

-- the figures of a kind at each step lie in their ranges, and never fall
pub record LawfulKind (figures : ℕ → ℕ × ℕ) : Type 0 where
  pub delay_fits : (step : ℕ) → step ≤ last_step → (figures step).0 ≤ max_delay
  pub output_step_fits : (step : ℕ) → step ≤ last_step → (figures step).1 ≤ last_step
  pub delay_rises : NeverFalls last_step (λ step. (figures step).0)
  pub output_step_rises : NeverFalls last_step (λ step. (figures step).1)
