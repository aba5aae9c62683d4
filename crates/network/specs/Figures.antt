-- When the figures of a launch or a limit are refused. Assumes nothing.
use Rattle.std.specs.Prelude.{ℕ, ◌≤◌, List, [], ◌∷◌, nat_lt}
use Rattle.units.specs.Refusals.{Row}
use Rattle.units.specs.Steps.{longest_transition}
use Rattle.paths.specs.Blocks.{latest_launch, largest_limit}
use Rattle.network.specs.Faults.{row}

-- the launch time, then the transition
abbrev pub launch_rows : ℕ → ℕ → List Row
launch_rows time transition =
    row (nat_lt latest_launch time) 12 time
    ∷ row (nat_lt longest_transition transition) 12 transition
    ∷ []

abbrev pub limit_rows : ℕ → List Row
limit_rows value = row (nat_lt largest_limit value) 12 value ∷ []

-- the figures lie in their ranges
abbrev pub LaunchFits : ℕ → ℕ → Type 0
LaunchFits time transition = (time ≤ latest_launch) × (transition ≤ longest_transition)

abbrev pub LimitFits : ℕ → Type 0
LimitFits value = value ≤ largest_limit
