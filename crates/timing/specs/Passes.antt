-- What the passes of a timing leave, arc by arc and net by net. Assumes nothing.
use Rattle.std.specs.Prelude.{◌≡◌, ℕ, ◌*◌, ◌<◌, ◌≤◌, true, false, ◌⊎◌, List, length, ℤ, Some, Option}
use Rattle.units.specs.Senses.{Order}
use Rattle.units.specs.Steps.{step_count, last_step}
use Rattle.models.specs.Meaning.{Meaning}
use Rattle.paths.specs.Blocks.{Block, tail_of, head_of}
use Rattle.paths.specs.Runs.{IsArc}
use Rattle.paths.specs.Signals.{Signal, signal, Launches, carried, Covers}
use Rattle.paths.specs.Slacks.{Least}
use Rattle.paths.specs.CarriedCounts.{sum_below}
use Rattle.paths.specs.ArcByArc.{PrunedByNets, RequiredByNets, SlackHeld, held_in}
use Rattle.paths.specs.Ranges.{latest_time, RequiredFits}
use Rattle.timing.specs.declared.answers.SignalRecord.{SignalRecord}
use Rattle.timing.specs.Areas.{record_at, no_signal, held_in_area, required_in_area, required_entry, slack_entry, SignalsPast, FiguresPast}

-- the arc of a signal that is its net's launch
abbrev pub launched_mark : ℕ
launched_mark = 65535

-- the signal is the net's launch, or came over the arc from a signal of that step that the tail has; which of these, where there are several, is free
abbrev pub CameFrom : Block → Meaning → Order → (ℕ → Signal → Type 0) → ℕ → Signal → ℕ → ℕ → Type 0
CameFrom b m o Has n y arc step =
    ((arc ≡ launched_mark) × (step ≡ 0) × Launches b o n y)
    ⊎ ((t : ℕ) × IsArc b arc × (head_of b.arcs arc ≡ n) × Has (tail_of b.arcs arc) (signal t step) × (y ≡ carried b m arc (signal t step)))

-- after the forward pass
pub record Forwarded (b : Block) (m : Meaning) (o : Order) (was is : List SignalRecord) (count : ℕ) : Type 0 where
  pub pruned : PrunedByNets b m o (Covers o) (held_in_area (length b.nets) is)
  pub sources : (n s : ℕ) → n < length b.nets → s ≤ last_step → (record_at is n s).kept ≡ true
      → CameFrom b m o (λ k y. held_in_area (length b.nets) is k y.step ≡ Some y.time) n (signal (record_at is n s).time s) (record_at is n s).arc (record_at is n s).step
  pub blank : (n s : ℕ) → n < length b.nets → s ≤ last_step → (record_at is n s).kept ≡ false → record_at is n s ≡ no_signal
  pub times : (n s : ℕ) → n < length b.nets → s ≤ last_step → (record_at is n s).time ≤ latest_time
  pub counted : count ≡ sum_below (λ i. held_in (held_in_area (length b.nets) is (tail_of b.arcs i))) (length b.arcs)
  pub past : SignalsPast (step_count * length b.nets) was is

-- after the backward pass
pub record Backward (b : Block) (m : Meaning) (o : Order) (was is : List ℤ) : Type 0 where
  pub by_nets : RequiredByNets b m o (required_in_area (length b.nets) is)
  pub range : (n s : ℕ) (r : ℤ) → n < length b.nets → s ≤ last_step → required_entry is n s ≡ Some r → RequiredFits r
  pub past : FiguresPast (step_count * length b.nets) was is

-- after the slacks are filled in
pub record SlacksFilled (o : Order) (nets : ℕ) (signals : List SignalRecord) (required was is : List ℤ) : Type 0 where
  pub each : (n : ℕ) → n < nets → Least (SlackHeld o (held_in_area nets signals) (required_in_area nets required) n) (slack_entry is n)
  pub past : FiguresPast nets was is

-- the least of the first slacks
abbrev pub LeastEntry : ℕ → List ℤ → Option ℤ → Type 0
LeastEntry nets slacks z = Least (λ a. (n : ℕ) × (n < nets) × (slack_entry slacks n ≡ Some a)) z
