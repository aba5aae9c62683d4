-- How many signals are kept and carried. Assumes nothing.
use Rattle.std.specs.Prelude.{◌≡◌, ℕ, zero, suc, ◌+◌, ◌⊎◌, ◌↔◌, List, [], ◌∷◌, length}
use Rattle.units.specs.Senses.{Order}
use Rattle.models.specs.Meaning.{Meaning}
use Rattle.paths.specs.Blocks.{Block, tail_of}
use Rattle.paths.specs.Runs.{IsArc}
use Rattle.paths.specs.Signals.{Signal, KeptSignal}

abbrev pub In : Signal → List Signal → Type 0
In y [] = ⊥
In y (x ∷ xs) = (y ≡ x) ⊎ In y xs

abbrev pub Distinct : List Signal → Type 0
Distinct [] = Unit {0}
Distinct (x ∷ xs) = (¬ In x xs) × Distinct xs

-- there are so many of them: a list without repeats holds them, and no others
abbrev pub Number : (Signal → Type 0) → ℕ → Type 0
Number Is c = (ys : List Signal) × Distinct ys × ((y : Signal) → Is y ↔ In y ys) × (length ys ≡ c)

abbrev pub sum_below : (ℕ → ℕ) → ℕ → ℕ
sum_below f zero = 0
sum_below f (suc k) = f k + sum_below f k

-- the sum over the arcs of the number of signals that the tail keeps
abbrev pub CarriedCount : Block → Meaning → Order → ℕ → Type 0
CarriedCount b m o c =
    (kept : ℕ → ℕ) × ((i : ℕ) → IsArc b i → Number (KeptSignal b m o (tail_of b.arcs i)) (kept i)) × (c ≡ sum_below kept (length b.arcs))
