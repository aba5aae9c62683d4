-- Cycles, what lies on or behind one, and what is left when nets are taken off one after the other. Assumes nothing.
use Rattle.std.specs.Prelude.{◌≡◌, ℕ, ◌<◌, ◌↔◌, List, ◌∷◌, length, Some, None, Option}
use Rattle.paths.specs.declared.blocks.Arc.{Arc}
use Rattle.paths.specs.Blocks.{Block, tail_of, head_of}
use Rattle.paths.specs.Runs.{Run}
use Rattle.paths.specs.Orders.{Placed, Unplaced, Numbers, Once, TailsFirst}

-- a run of at least one arc leads from the net back to it
abbrev pub OnCycle : Block → ℕ → Type 0
OnCycle b n = (i : ℕ) × (is : List ℕ) × Run b n (i ∷ is) n

-- the net is on a cycle, or reachable from one
abbrev pub ReachableFromCycle : Block → ℕ → Type 0
ReachableFromCycle b n = (k : ℕ) × (is : List ℕ) × OnCycle b k × Run b k is n

-- no net is on a cycle
abbrev pub Acyclic : Block → Type 0
Acyclic b = (n : ℕ) → ¬ OnCycle b n

-- of the numbers that have a property, the lowest
abbrev pub Lowest : (ℕ → Type 0) → ℕ → Type 0
Lowest P n = P n × ((k : ℕ) → k < n → ¬ P k)

-- the block has no cycle; or the net is the lowest on a cycle or reachable from one
abbrev pub CycleAt : Block → Option ℕ → Type 0
CycleAt b None = Acyclic b
CycleAt b (Some n) = Lowest (ReachableFromCycle b) n

-- of the nets left none can be taken off: not every arc into one comes from a net taken off
abbrev pub NoneCanBePlaced : ℕ → List Arc → List ℕ → Type 0
NoneCanBePlaced nets arcs off = (n : ℕ) → n < nets → Unplaced off n → ¬ ((i : ℕ) → i < length arcs → head_of arcs i ≡ n → Placed off (tail_of arcs i))

-- Nets taken off one after the other, each when no arc leads to it from a net that is left, until none can be.
pub record TakenOff (nets : ℕ) (arcs : List Arc) (off : List ℕ) : Type 0 where
  pub numbers : Numbers nets off
  pub once : Once off
  pub tails_first : TailsFirst arcs off
  pub none_can_be_placed : NoneCanBePlaced nets arcs off

-- what is left then is exactly what lies on a cycle or is reachable from one
abbrev pub LeftIsReachable : Block → List ℕ → Type 0
LeftIsReachable b off = (n : ℕ) → n < length b.nets → Unplaced off n ↔ ReachableFromCycle b n
