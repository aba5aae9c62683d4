-- The slack of a record's signal against a required time, and the least of a net's. Assumes nothing.
use Rattle.std.specs.Prelude.{◌≡◌, ℕ, ◌<◌, List, ℤ, pos, Some, None, Option}
use Rattle.units.specs.Senses.{Order}
use Rattle.units.specs.Steps.{step_count}
use Rattle.paths.specs.Slacks.{Least}
use Rattle.timing.specs.declared.answers.SignalRecord.{SignalRecord}
use Rattle.timing.specs.Areas.{record_at, held_by, required_entry}

-- the slack of a time that is held against a required time; none if either is missing
abbrev pub slack_figure : Order → Option ℕ → Option ℤ → Option ℤ
slack_figure o None required = None
slack_figure o (Some t) None = None
slack_figure o (Some t) (Some r) = Some (o.slack (pos t) r)

-- the slack of the signal against the required time that the areas hold for a net and a step
abbrev pub slack_of_entries : Order → List SignalRecord → List ℤ → ℕ → ℕ → Option ℤ
slack_of_entries o signals required n s = slack_figure o (held_by (record_at signals n s)) (required_entry required n s)

-- the least of them over the steps of a net
abbrev pub LeastOfRow : Order → List SignalRecord → List ℤ → ℕ → Option ℤ → Type 0
LeastOfRow o signals required n z = Least (λ a. (s : ℕ) × (s < step_count) × (slack_of_entries o signals required n s ≡ Some a)) z
