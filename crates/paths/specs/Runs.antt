-- Runs of arcs. Assumes nothing.
use Rattle.std.specs.Prelude.{◌≡◌, ℕ, ◌<◌, List, [], ◌∷◌, length}
use Rattle.paths.specs.Blocks.{Block, tail_of, head_of}

-- the block has an arc of this number
abbrev pub IsArc : Block → ℕ → Type 0
IsArc b i = i < length b.arcs

-- arcs by their numbers, each of which begins where the one before ended: from a net to the net `end`
abbrev pub Run : Block → ℕ → List ℕ → ℕ → Type 0
Run b n [] end = n ≡ end
Run b n (i ∷ is) end = IsArc b i × (tail_of b.arcs i ≡ n) × Run b (head_of b.arcs i) is end
