-- Signals, required times and slacks worked out arc by arc, and that they are those over all runs. Assumes nothing.
use Rattle.std.specs.Prelude.{◌≡◌, ℕ, ◌≤◌, ◌⊎◌, ◌↔◌, List, length, ℤ, pos, ◌-ℤ◌, Some, None, Option}
use Rattle.units.specs.Senses.{Order, AsBad}
use Rattle.units.specs.Senses as senses
use Rattle.units.specs.Steps.{step_count, last_step}
use Rattle.models.specs.Meaning.{Meaning, max_delay}
use Rattle.models.specs.Meaning as models
use Rattle.paths.specs.Blocks.{Block, tail_of, head_of, kind_of}
use Rattle.paths.specs.Runs.{IsArc}
use Rattle.paths.specs.Orders.{TopologicalOrder}
use Rattle.paths.specs.Signals.{Signal, signal, Launches, carried, along, Covers, KeptSignal}
use Rattle.paths.specs.Slacks.{limit_at, First, Least, RequiredTime, NetSlack, WorstSlack}
use Rattle.paths.specs.CarriedCounts.{sum_below, CarriedCount}

-- for net and step the time of the signal held there
abbrev pub SignalTable : Type 0
SignalTable = ℕ → ℕ → Option ℕ

-- the signal comes to the net from its launch, or over an arc from one that the table holds at the tail
abbrev pub ArrivesAt : Block → Meaning → Order → SignalTable → ℕ → Signal → Type 0
ArrivesAt b m o held n y =
    Launches b o n y
    ⊎ ((i : ℕ) × (s : ℕ) × (t : ℕ) × IsArc b i × (head_of b.arcs i ≡ n) × (held (tail_of b.arcs i) s ≡ Some t) × (y ≡ carried b m i (signal t s)))

-- signals by step: each was offered, over every offered one stands one of them, and none stands over another
pub record ParetoRow (Over : Signal → Signal → Type 0) (Offered : Signal → Type 0) (row : ℕ → Option ℕ) : Type 0 where
  pub offered : (s t : ℕ) → row s ≡ Some t → Offered (signal t s)
  pub covered : (y : Signal) → Offered y → (s : ℕ) × (t : ℕ) × (row s ≡ Some t) × Over (signal t s) y
  pub apart : (s t s' t' : ℕ) → row s ≡ Some t → row s' ≡ Some t' → Over (signal t s) (signal t' s') → s ≡ s'

-- each net's row is pruned from what comes to it
abbrev pub PrunedByNets : Block → Meaning → Order → (Signal → Signal → Type 0) → SignalTable → Type 0
PrunedByNets b m o Over held = (n : ℕ) → ParetoRow Over (ArrivesAt b m o held n) (held n)

-- what the theorems are given: a lawful model and sense, and an order of the nets
pub record Timeable (b : Block) (m : Meaning) (o : Order) (order : List ℕ) : Type 0 where
  pub model : models.Lawful m
  pub sense : senses.Lawful o
  pub ordered : TopologicalOrder (length b.nets) b.arcs order

-- covering is carried along any run
abbrev pub CoveringCarried : Block → Meaning → Order → Type 0
CoveringCarried b m o = (x y : Signal) (is : List ℕ) → x.step ≤ last_step → y.step ≤ last_step → Covers o x y → Covers o (along b m x is) (along b m y is)

-- pruning net by net keeps exactly the signals that are kept over all runs
abbrev pub PruningLosesNothing : Block → Meaning → Order → SignalTable → Type 0
PruningLosesNothing b m o held = (n s t : ℕ) → (held n s ≡ Some t) ↔ KeptSignal b m o n (signal t s)

-- for net and step the required time
abbrev pub RequiredTable : Type 0
RequiredTable = ℕ → ℕ → Option ℤ

-- at a net and step: its limit, or over an arc out what the table holds at the head and output step, less the delay
abbrev pub RequiredByArcs : Block → Meaning → Order → RequiredTable → ℕ → ℕ → ℤ → Type 0
RequiredByArcs b m o required n s r =
    ((limit : ℕ) × (limit_at b o n ≡ Some limit) × (r ≡ pos limit))
    ⊎ ((i : ℕ) × (q : ℤ) × IsArc b i × (tail_of b.arcs i ≡ n) × (required (head_of b.arcs i) (m.output_step (kind_of b.arcs i) s) ≡ Some q) × (r ≡ q -ℤ pos (m.delay (kind_of b.arcs i) s)))

-- each net and step holds the hardest of these
abbrev pub RequiredByNets : Block → Meaning → Order → RequiredTable → Type 0
RequiredByNets b m o required = (n s : ℕ) → s ≤ last_step → First (λ a z. AsBad o z a) (RequiredByArcs b m o required n s) (required n s)

abbrev pub RequiredTimesRecurse : Block → Meaning → Order → RequiredTable → Type 0
RequiredTimesRecurse b m o required = (n s : ℕ) → s ≤ last_step → RequiredTime b m o n s (required n s)

-- the slack of a signal that is held against the required time of its step
abbrev pub SlackHeld : Order → SignalTable → RequiredTable → ℕ → ℤ → Type 0
SlackHeld o held required n z = (s : ℕ) × (t : ℕ) × (r : ℤ) × (held n s ≡ Some t) × (required n s ≡ Some r) × (z ≡ o.slack (pos t) r)

-- the least of them is the net's slack
abbrev pub SlackMeetsAtNets : Block → Meaning → Order → SignalTable → RequiredTable → Type 0
SlackMeetsAtNets b m o held required = (n : ℕ) (z : Option ℤ) → Least (SlackHeld o held required n) z → NetSlack b m o n z

-- the least of the nets' slacks is the worst slack
abbrev pub WorstOfNets : Block → Meaning → Order → (ℕ → Option ℤ) → Type 0
WorstOfNets b m o slacks = (z : Option ℤ) → Least (λ a. (n : ℕ) × (slacks n ≡ Some a)) z → WorstSlack b m o z

-- how many steps of a row hold a signal
abbrev pub one_if_some : Option ℕ → ℕ
one_if_some None = 0
one_if_some (Some t) = 1

abbrev pub held_in : (ℕ → Option ℕ) → ℕ
held_in row = sum_below (λ s. one_if_some (row s)) step_count

-- the carried count is the sum over the arcs of what the tail's row holds
abbrev pub CountedByRows : Block → Meaning → Order → SignalTable → Type 0
CountedByRows b m o held = CarriedCount b m o (sum_below (λ i. held_in (held (tail_of b.arcs i))) (length b.arcs))

-- there is one time of a kept signal of a step, one required time, one slack of a net, one worst slack and one carried count
pub record FiguresUnique (b : Block) (m : Meaning) (o : Order) : Type 0 where
  pub kept_time : (n s t t' : ℕ) → KeptSignal b m o n (signal t s) → KeptSignal b m o n (signal t' s) → t ≡ t'
  pub required_time : (n s : ℕ) (x y : Option ℤ) → RequiredTime b m o n s x → RequiredTime b m o n s y → x ≡ y
  pub net_slack : (n : ℕ) (x y : Option ℤ) → NetSlack b m o n x → NetSlack b m o n y → x ≡ y
  pub worst_slack : (x y : Option ℤ) → WorstSlack b m o x → WorstSlack b m o y → x ≡ y
  pub carried_count : (x y : ℕ) → CarriedCount b m o x → CarriedCount b m o y → x ≡ y
