-- A derated delay is a percentage of the delay below, rounded down and capped. Assumes nothing.
use Rattle.std.specs.Prelude.{ℕ, ◌*◌, ◌/◌, min}
use Rattle.models.specs.Meaning.{Meaning, max_delay}

-- the largest percentage
abbrev pub max_percent : ℕ
max_percent = 1000

abbrev pub derated : ℕ → Meaning → Meaning
derated percent m = record {
  count = m.count;
  delay = λ k s. min (m.delay k s * percent / 100) max_delay;
  output_step = m.output_step;
}
