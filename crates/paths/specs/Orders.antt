-- Nets in order: each arc's tail before its head. Assumes nothing.
use Rattle.std.specs.Prelude.{◌≡◌, ℕ, suc, ◌<◌, ◌≤◌, cond, List, [], ◌∷◌, length, Some, None, Option, ◌==◌, slice_index}
use Rattle.paths.specs.declared.blocks.Arc.{Arc}
use Rattle.paths.specs.Blocks.{tail_of, head_of}

-- the first place of a net in the list; the list's length where it does not stand there
abbrev pub place_of : List ℕ → ℕ → ℕ
place_of [] n = 0
place_of (x ∷ xs) n = cond (x == n) 0 (suc (place_of xs n))

-- the net stands in the list
abbrev pub Placed : List ℕ → ℕ → Type 0
Placed order n = place_of order n < length order

-- the net does not
abbrev pub Unplaced : List ℕ → ℕ → Type 0
Unplaced order n = length order ≤ place_of order n

-- each entry is the number of a net
abbrev pub Numbers : ℕ → List ℕ → Type 0
Numbers nets order = (k : ℕ) → k < length order → slice_index order k < nets

-- no net stands at two places
abbrev pub Once : List ℕ → Type 0
Once order = (k : ℕ) → k < length order → place_of order (slice_index order k) ≡ k

-- an arc leads to a net of the list only from a net before it
abbrev pub TailsFirst : List Arc → List ℕ → Type 0
TailsFirst arcs order = (i : ℕ) → i < length arcs → Placed order (head_of arcs i) → place_of order (tail_of arcs i) < place_of order (head_of arcs i)

-- every net stands there
abbrev pub Whole : ℕ → List ℕ → Type 0
Whole nets order = (n : ℕ) → n < nets → Placed order n

-- every net stands there; or this is the lowest that does not
abbrev pub LowestUnplaced : ℕ → List ℕ → Option ℕ → Type 0
LowestUnplaced nets order None = Whole nets order
LowestUnplaced nets order (Some n) = (n < nets) × Unplaced order n × ((k : ℕ) → k < n → Placed order k)

-- each net stands once, and the tail of each arc before its head
pub record TopologicalOrder (nets : ℕ) (arcs : List Arc) (order : List ℕ) : Type 0 where
  pub long : length order ≡ nets
  pub numbers : Numbers nets order
  pub once : Once order
  pub whole : Whole nets order
  pub tails_first : (i : ℕ) → i < length arcs → place_of order (tail_of arcs i) < place_of order (head_of arcs i)
