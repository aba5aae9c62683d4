-- The ranges of times, required times and slacks. Assumes nothing.
use Rattle.std.specs.Prelude.{ℕ, ◌+◌, ◌*◌, ◌≤◌, ℤ, pos, neg_ℤ, ◌≤ℤ◌}
use Rattle.units.specs.Senses.{Order}
use Rattle.units.specs.Steps.{last_step}
use Rattle.models.specs.Meaning.{Meaning, max_delay}
use Rattle.paths.specs.Blocks.{Block, latest_launch, largest_limit, max_path}
use Rattle.paths.specs.Signals.{Signal, Arrives}
use Rattle.paths.specs.Slacks.{Asks, SlackOfPath}

-- the most that the delays of a path add up to
abbrev pub longest_delay : ℕ
longest_delay = max_path * max_delay

abbrev pub latest_time : ℕ
latest_time = latest_launch + longest_delay

abbrev pub RequiredFits : ℤ → Type 0
RequiredFits r = (neg_ℤ (pos longest_delay) ≤ℤ r) × (r ≤ℤ pos largest_limit)

abbrev pub SlackFits : ℤ → Type 0
SlackFits z = (neg_ℤ (pos largest_limit) ≤ℤ z) × (z ≤ℤ pos largest_limit)

-- every signal that arrives, every required time that a run asks for and every slack of a path is in its range
pub record RangesHold (b : Block) (m : Meaning) (o : Order) : Type 0 where
  pub time : (n : ℕ) (y : Signal) → Arrives b m o n y → y.time ≤ latest_time
  pub step : (n : ℕ) (y : Signal) → Arrives b m o n y → y.step ≤ last_step
  pub required : (n s : ℕ) (r : ℤ) → Asks b m o n s r → RequiredFits r
  pub slack : (z : ℤ) → SlackOfPath b m o z → SlackFits z
