-- The required times of one net, from its limit and from what is required at the heads of its arcs. Assumes nothing.
use Rattle.std.specs.Prelude.{◌≡◌, ℕ, ◌+◌, ◌*◌, ◌<◌, ◌≤◌, cond, ◌⊎◌, List, length, ℤ, pos, ◌-ℤ◌, Some, None, Option, slice_index_or}
use Rattle.units.specs.Senses.{Order, AsBad}
use Rattle.units.specs.Steps.{step_count, last_step}
use Rattle.models.specs.Meaning.{Meaning}
use Rattle.paths.specs.declared.blocks.Net.{Net}
use Rattle.paths.specs.declared.blocks.Arc.{Arc}
use Rattle.paths.specs.Blocks.{Block, tail_of, head_of}
use Rattle.paths.specs.Slacks.{First}
use Rattle.paths.specs.ArcByArc.{RequiredTable, RequiredByArcs}
use Rattle.paths.specs.Ranges.{RequiredFits}
use Rattle.timing.specs.Areas.{figure, required_entry}

-- a limit as a figure
abbrev pub as_figure : Option ℕ → Option ℤ
as_figure None = None
as_figure (Some limit) = Some (pos limit)

-- the limit of a net in a sense, as a figure
abbrev pub limit_figure : Order → Net → Option ℤ
limit_figure o net = as_figure (cond o.is_late net.late_limit net.early_limit)

-- the first required time is at least as hard to meet as the second
abbrev pub AsHard : Order → ℤ → ℤ → Type 0
AsHard o a z = AsBad o z a

-- r is the harder to meet of two required times; where one is missing, the other
abbrev pub HarderOf : Order → Option ℤ → Option ℤ → Option ℤ → Type 0
HarderOf o None y r = r ≡ y
HarderOf o (Some a) None r = r ≡ Some a
HarderOf o (Some a) (Some z) r = ((r ≡ Some a) × AsHard o a z) ⊎ ((r ≡ Some z) × AsHard o z a)

-- a required time, where there is one, less a delay
abbrev pub less_delay : Option ℤ → ℕ → Option ℤ
less_delay None delay = None
less_delay (Some r) delay = Some (r -ℤ pos delay)

-- what is required at the tail of an arc and a step, by the table's required times at its head
abbrev pub required_over : Meaning → RequiredTable → Arc → ℕ → Option ℤ
required_over m required arc s = less_delay (required arc.head (m.output_step arc.kind s)) (m.delay arc.kind s)

-- a figure, where there is one, is in the range of required times
abbrev pub EntryFits : Option ℤ → Type 0
EntryFits x = (r : ℤ) → x ≡ Some r → RequiredFits r

-- each entry of a net's row is
abbrev pub RowFits : List ℤ → ℕ → Type 0
RowFits required n = (s : ℕ) → s ≤ last_step → EntryFits (required_entry required n s)

-- the rows of the heads of a net's arcs stand in the area, and fit
pub record HeadsReady (arcs : List Arc) (n : ℕ) (required : List ℤ) : Type 0 where
  pub room : (i : ℕ) → i < length arcs → tail_of arcs i ≡ n → step_count * head_of arcs i + step_count ≤ length required
  pub fits : (i : ℕ) → i < length arcs → tail_of arcs i ≡ n → RowFits required (head_of arcs i)

-- at each step the row holds the harder of what it held and of what the arc requires
abbrev pub RowOver : Meaning → Order → RequiredTable → Arc → List ℤ → List ℤ → Type 0
RowOver m o required arc was is =
    (s : ℕ) → s ≤ last_step → HarderOf o (figure (slice_index_or was s (pos 0))) (required_over m required arc s) (figure (slice_index_or is s (pos 0)))

-- at each step the row holds the hardest of the net's limit and of what its arcs require
abbrev pub RequiredRow : Block → Meaning → Order → RequiredTable → ℕ → List ℤ → Type 0
RequiredRow b m o required n row =
    (s : ℕ) → s ≤ last_step → First (AsHard o) (RequiredByArcs b m o required n s) (figure (slice_index_or row s (pos 0)))
