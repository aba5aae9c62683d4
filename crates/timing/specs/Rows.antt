-- When a timing is refused: an area too short, or a kind that the model does not hold. Assumes nothing.
use Rattle.std.specs.Prelude.{ℕ, ◌*◌, ◌<◌, ◌≤◌, List, [], ◌∷◌, ◌++◌, map, length, nat_le, nat_lt}
use Rattle.std.specs.List.{range_with_len}
use Rattle.units.specs.Refusals.{Row}
use Rattle.units.specs.Steps.{step_count}
use Rattle.models.specs.Meaning.{Meaning}
use Rattle.paths.specs.declared.blocks.Arc.{Arc}
use Rattle.paths.specs.Blocks.{Block, kind_of, max_path}
use Rattle.timing.specs.Faults.{row}

-- the areas in turn, by their lengths
abbrev pub area_rows : ℕ → ℕ → ℕ → ℕ → ℕ → List Row
area_rows nets signals required slacks path =
    row (nat_lt signals (step_count * nets)) 22 1
    ∷ row (nat_lt required (step_count * nets)) 22 2
    ∷ row (nat_lt slacks nets) 22 3
    ∷ row (nat_lt path max_path) 22 4
    ∷ []

-- the areas are long enough
pub record AreasFit (nets signals required slacks path : ℕ) : Type 0 where
  pub first : step_count * nets ≤ signals
  pub second : step_count * nets ≤ required
  pub third : nets ≤ slacks
  pub fourth : max_path ≤ path

-- the arcs in rising number
abbrev pub kind_rows : ℕ → List Arc → List Row
kind_rows count arcs = map (λ i. row (nat_le count (kind_of arcs i)) 23 i) (range_with_len 0 (length arcs))

-- the model holds the kind of each arc
abbrev pub KindsHeld : ℕ → List Arc → Type 0
KindsHeld count arcs = (i : ℕ) → i < length arcs → kind_of arcs i < count

abbrev pub time_rows : Block → Meaning → ℕ → ℕ → ℕ → ℕ → List Row
time_rows b m signals required slacks path = area_rows (length b.nets) signals required slacks path ++ kind_rows m.count b.arcs
