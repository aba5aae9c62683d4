-- The transition that a step stands for, and the step of a transition. Assumes nothing.
use Rattle.std.specs.Prelude.{◌≡◌, ℕ, ◌+◌, ◌*◌, ◌<◌, ◌≤◌}

-- how many steps there are
abbrev pub step_count : ℕ
step_count = 32

-- the slowest step
abbrev pub last_step : ℕ
last_step = 31

-- the transition that a step stands for
abbrev pub picoseconds : ℕ → ℕ
picoseconds s = 10 * s + s * s

-- the longest transition that a step stands for: 1271
abbrev pub longest_transition : ℕ
longest_transition = picoseconds last_step

-- the smallest step that stands for at least that many picoseconds, or the last where none does
pub record RoundedUp (transition step : ℕ) : Type 0 where
  pub within : step ≤ last_step
  pub reaches : transition ≤ longest_transition → transition ≤ picoseconds step
  pub smallest : (s : ℕ) → s < step → picoseconds s < transition
  pub too_long : longest_transition < transition → step ≡ last_step
