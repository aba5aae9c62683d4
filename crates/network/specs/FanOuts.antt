-- The arcs out of each net, in rising number. Assumes nothing.
use Rattle.std.specs.Prelude.{◌≡◌, ℕ, ◌+◌, ◌<◌, cond, List, [], ◌∷◌, ◌==◌, slice_index_or, slice_range}
use Rattle.paths.specs.declared.blocks.Arc.{Arc}
use Rattle.paths.specs.Blocks.{max_nets}
use Rattle.network.specs.declared.fan_out.Span.{Span}
use Rattle.network.specs.declared.fan_out.FanOut.{FanOut}

-- the numbers of the arcs out of a net, in rising number, among arcs that are numbered from i on
abbrev pub arcs_out : List Arc → ℕ → ℕ → List ℕ
arcs_out [] n i = []
arcs_out (a ∷ more) n i = cond (a.tail == n) (i ∷ arcs_out more n (i + 1)) (arcs_out more n (i + 1))

-- where a net's arcs stand in the table
abbrev pub span_of : List Span → ℕ → Span
span_of spans n = slice_index_or spans n (record { start = 0; end = 0 })

-- a span that begins there and holds nothing yet
abbrev pub IsEmptyAt : Span → ℕ → Type 0
IsEmptyAt s start = (s.start ≡ start) × (s.end ≡ start)

-- the part of the table that is a net's
abbrev pub listed : FanOut → ℕ → List ℕ
listed f n = slice_range f.arcs (span_of f.spans n).start (span_of f.spans n).end

-- each net's part holds the arcs out of it
abbrev pub FansOut : List Arc → FanOut → Type 0
FansOut arcs f = (n : ℕ) → n < max_nets → listed f n ≡ arcs_out arcs n 0
