-- The table of refusals: rows tested downwards, of which the first that holds is returned. Assumes nothing.
use Rattle.std.specs.Prelude.{◌≡◌, Bool, cond, List, [], ◌∷◌, Some, None, Ok, Err, Option, Result}
use Rattle.units.specs.declared.refusals.Refusal.{Refusal}

-- a condition, and what is returned where it is the first that holds
pub record Row : Type 0 where
  pub holds : Bool
  pub refusal : Refusal

-- the first row that holds
abbrev pub first : List Row → Option Refusal
first [] = None
first (r ∷ rs) = cond r.holds (Some r.refusal) (first rs)

-- A call with these rows: where none holds it does what is asked; else it names the first that holds, and leaves all as it was.
abbrev pub Outcome : {X F : Type 0} → (F → Refusal) → List Row → Result X F → (X → Type 0) → Type 0 → Type 0
Outcome refusal_of rows (Ok x) done same = (first rows ≡ None) × done x
Outcome refusal_of rows (Err f) done same = (first rows ≡ Some (refusal_of f)) × same
