-- The first row of an addition: whether the model is full. Assumes nothing.
use Rattle.std.proofs.Common.{◌≡◌, ℕ, ◌<◌, ◌≤◌, List, ◌∷◌, Some, arith}
use Rattle.std.proofs.lemmas.Bool.Decides.{nat_tests}
use Rattle.units.specs.Refusals.{Row, first}
use Rattle.models.specs.Faults.{full_row, model_refusal}
use Rattle.models.specs.Meaning.{max_kinds}

pub refused_full : (count : ℕ) (rows : List Row) → max_kinds ≤ count → first (full_row count ∷ rows) ≡ Some (model_refusal 1 max_kinds)
refused_full count rows h = grind (arith, nat_tests)

pub past_full : (count : ℕ) (rows : List Row) → count < max_kinds → first (full_row count ∷ rows) ≡ first rows
past_full count rows h = grind (arith, nat_tests)
