-- From the first step before the last that stands for enough to the step that a transition is rounded up to. Assumes nothing.
use Rattle.std.proofs.Common.{◌*◌, ◌<◌, ◌≤◌, mul-le-mul, ℕ, Some, None, Option, MatchOption, unwrap_or, refl, arith}
use Rattle.units.specs.Steps.{last_step, picoseconds, RoundedUp}

-- the first step that stands for enough, where one before the last does
abbrev pub FirstEnough : ℕ → Option ℕ → Type 0
FirstEnough transition r =
    MatchOption r
    ((s : ℕ) → 0 ≤ s → s < last_step → picoseconds s < transition)
    (λ i. (0 ≤ i) × (i < last_step) × (transition ≤ picoseconds i) × ((s : ℕ) → 0 ≤ s → s < i → picoseconds s < transition))

pub rounded_up : (transition : ℕ) (r : Option ℕ) → FirstEnough transition r → RoundedUp transition (unwrap_or r last_step)
rounded_up transition None none = record { within = omega arith; reaches = λ le. le; smallest = λ s lt. none s (omega arith) lt; too_long = λ _. refl }
rounded_up transition (Some i) (low, below, enough, first) =
    let square : i * i ≤ last_step * last_step = mul-le-mul {n₂ = last_step} {m₂ = last_step} (omega arith) (omega arith) in
    record { within = omega arith; reaches = λ _. enough; smallest = λ s lt. first s (omega arith) lt; too_long = λ long. absurd (omega arith) }
