-- The end of a path of the worst slack, and the path to it by the records. Assumes nothing.
use Rattle.std.specs.Prelude.{◌≡◌, ℕ, ◌*◌, ◌<◌, ◌≤◌, true, List, length, ℤ, Some, None, Option, slice_index_or}
use Rattle.units.specs.Senses.{Order}
use Rattle.units.specs.Steps.{step_count, last_step}
use Rattle.models.specs.Meaning.{Meaning}
use Rattle.paths.specs.declared.blocks.Net.{Net}
use Rattle.paths.specs.declared.blocks.Arc.{Arc}
use Rattle.paths.specs.Blocks.{Block, block, no_net, max_nets}
use Rattle.paths.specs.Runs.{Run}
use Rattle.paths.specs.Orders.{TopologicalOrder}
use Rattle.paths.specs.Signals.{Signal, signal, Launches, along}
use Rattle.timing.specs.declared.answers.SignalRecord.{SignalRecord}
use Rattle.timing.specs.Areas.{record_at, held_by, held_in_area}
use Rattle.timing.specs.Passes.{CameFrom}
use Rattle.timing.specs.RequiredRows.{limit_figure}
use Rattle.timing.specs.SlackFigures.{slack_figure}

-- the slack of the signal that net and step keep, against a limit
abbrev pub slack_against : Order → List SignalRecord → Option ℤ → ℕ → ℕ → Option ℤ
slack_against o signals limit n s = slack_figure o (held_by (record_at signals n s)) limit

-- the signal that net and step keep has the slack z against the net's limit
pub record EndAt (nets : List Net) (o : Order) (signals : List SignalRecord) (z : ℤ) (n s : ℕ) : Type 0 where
  pub net : n < length nets
  pub step : s ≤ last_step
  pub slack : slack_against o signals (limit_figure o (slice_index_or nets n no_net)) n s ≡ Some z

-- a step at which the net's signal has the slack z against a limit; or that none has
abbrev pub EndStep : Order → List SignalRecord → ℕ → Option ℤ → ℤ → Option ℕ → Type 0
EndStep o signals n limit z None = (s : ℕ) → s ≤ last_step → ¬ (slack_against o signals limit n s ≡ Some z)
EndStep o signals n limit z (Some s) = (s ≤ last_step) × (slack_against o signals limit n s ≡ Some z)

-- each kept record tells where its signal came from
abbrev pub Sources : Block → Meaning → Order → List SignalRecord → Type 0
Sources b m o signals = (n s : ℕ) → n < length b.nets → s ≤ last_step → (record_at signals n s).kept ≡ true
    → CameFrom b m o (λ k y. held_in_area (length b.nets) signals k y.step ≡ Some y.time) n (signal (record_at signals n s).time s) (record_at signals n s).arc (record_at signals n s).step

-- the records are those of the block, whose nets are in order, and net and step keep a signal
pub record Traceable (b : Block) (m : Meaning) (o : Order) (order : List ℕ) (signals : List SignalRecord) (end step : ℕ) : Type 0 where
  pub few : length b.nets ≤ max_nets
  pub room : step_count * length b.nets ≤ length signals
  pub ordered : TopologicalOrder (length b.nets) b.arcs order
  pub sources : Sources b m o signals
  pub net : end < length b.nets
  pub step_fits : step ≤ last_step
  pub kept : (record_at signals end step).kept ≡ true

-- they are for some nets, model, sense and order: the records do not tell which
abbrev pub SomeTraceable : List Arc → List SignalRecord → ℕ → ℕ → Type 0
SomeTraceable arcs signals end step = (nets : List Net) × (m : Meaning) × (o : Order) × (order : List ℕ) × Traceable (block nets arcs) m o order signals end step

-- the run from the start's launch gives the signal at the end
abbrev pub ArrivesBy : Block → Meaning → Order → ℕ → List ℕ → ℕ → Signal → Type 0
ArrivesBy b m o start is end y = (x : Signal) × Launches b o start x × Run b start is end × (y ≡ along b m x is)

-- for all those, the run gives the signal that the end's record keeps
abbrev pub TracedRun : List Arc → List SignalRecord → ℕ → ℕ → ℕ → List ℕ → Type 0
TracedRun arcs signals end step start is =
    (nets : List Net) (m : Meaning) (o : Order) (order : List ℕ) → Traceable (block nets arcs) m o order signals end step → ArrivesBy (block nets arcs) m o start is end (signal (record_at signals end step).time step)
