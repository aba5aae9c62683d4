-- What a timing answers and leaves in its areas. Assumes nothing.
use Rattle.std.specs.Prelude.{◌≡◌, ℕ, ◌*◌, ◌<◌, ◌≤◌, true, false, ◌↔◌, List, length, take, ℤ, ◌≤ℤ◌, Some, None, Result}
use Rattle.units.specs.declared.refusals.Refusal.{Refusal}
use Rattle.units.specs.Refusals.{Outcome}
use Rattle.units.specs.Senses.{Order}
use Rattle.units.specs.Steps.{step_count, last_step}
use Rattle.models.specs.Meaning.{Meaning}
use Rattle.paths.specs.Blocks.{Block, max_path}
use Rattle.paths.specs.Signals.{Signal, signal, KeptSignal}
use Rattle.paths.specs.Slacks.{RequiredTime, NetSlack, WorstSlack, CompletePath, path_slack, SlackOfPath, SlackThrough}
use Rattle.paths.specs.CarriedCounts.{CarriedCount}
use Rattle.timing.specs.declared.answers.Answer.{Answer}
use Rattle.timing.specs.declared.answers.SignalRecord.{SignalRecord}
use Rattle.timing.specs.Areas.{record_at, no_signal, none_value, figure, required_entry, slack_entry, SignalsPast, FiguresPast, ArcsPast}
use Rattle.timing.specs.Passes.{CameFrom}
use Rattle.timing.specs.Rows.{time_rows}

-- the record of a net and a step: a kept signal and where it came from, or that none of the step is kept; then time, arc and step are 0
pub record SignalRecorded (b : Block) (m : Meaning) (o : Order) (n s : ℕ) (e : SignalRecord) : Type 0 where
  pub kept : e.kept ≡ true → KeptSignal b m o n (signal e.time s) × CameFrom b m o (KeptSignal b m o) n (signal e.time s) e.arc e.step
  pub not_kept : e.kept ≡ false → ((t : ℕ) → ¬ KeptSignal b m o n (signal t s)) × (e ≡ no_signal)

-- the path that is answered: a complete one with the worst slack; which of several it is, is free
abbrev pub PathAnswered : Block → Meaning → Order → List ℕ → Answer → ℤ → Type 0
PathAnswered b m o path a z =
    (x : Signal) × (end : ℕ) × (limit : ℕ) × CompletePath b o a.start x (take a.arcs path) end limit × (z ≡ path_slack b m o x (take a.arcs path) limit)

-- the four areas at one time
pub record Areas : Type 0 where
  pub signals : List SignalRecord
  pub required : List ℤ
  pub slacks : List ℤ
  pub path : List ℕ

abbrev pub areas : List SignalRecord → List ℤ → List ℤ → List ℕ → Areas
areas signals required slacks path = record { signals = signals; required = required; slacks = slacks; path = path }

-- the answer and the areas are right, and entries past those named are as they were
pub record Timed (b : Block) (m : Meaning) (o : Order) (was is : Areas) (a : Answer) : Type 0 where
  pub signals : (n s : ℕ) → n < length b.nets → s ≤ last_step → SignalRecorded b m o n s (record_at is.signals n s)
  pub required_times : (n s : ℕ) → n < length b.nets → s ≤ last_step → RequiredTime b m o n s (required_entry is.required n s)
  pub net_slacks : (n : ℕ) → n < length b.nets → NetSlack b m o n (slack_entry is.slacks n)
  pub worst_slack : WorstSlack b m o (figure a.worst_slack)
  pub path : (z : ℤ) → figure a.worst_slack ≡ Some z → PathAnswered b m o is.path a z
  pub path_length : a.arcs ≤ max_path
  pub none : figure a.worst_slack ≡ None → (a.worst_slack ≡ none_value) × (a.start ≡ 0) × (a.arcs ≡ 0)
  pub carried_count : CarriedCount b m o a.carried
  pub carried_most : a.carried ≤ step_count * length b.arcs
  pub signals_past : SignalsPast (step_count * length b.nets) was.signals is.signals
  pub required_past : FiguresPast (step_count * length b.nets) was.required is.required
  pub slacks_past : FiguresPast (length b.nets) was.slacks is.slacks
  pub path_past : ArcsPast a.arcs was.path is.path

-- refused by the first row that holds, with the areas as they were; else timed
abbrev pub TimeOutcome : {F : Type 0} → (F → Refusal) → Block → Meaning → Order → Areas → Result Answer F → Areas → Type 0
TimeOutcome refusal_of b m o was r is =
    Outcome refusal_of (time_rows b m (length was.signals) (length was.required) (length was.slacks) (length was.path)) r
    (λ a. Timed b m o was is a)
    (is ≡ was)

-- The worst slack is none exactly when no complete path exists. Otherwise the path answered is complete and has it, and every complete path has at least as much.
pub record WorstPath (b : Block) (m : Meaning) (o : Order) (path : List ℕ) (a : Answer) : Type 0 where
  pub says_none : (figure a.worst_slack ≡ None) ↔ ((z : ℤ) → ¬ SlackOfPath b m o z)
  pub path_complete : (z : ℤ) → figure a.worst_slack ≡ Some z → PathAnswered b m o path a z
  pub least : (z y : ℤ) → figure a.worst_slack ≡ Some z → SlackOfPath b m o y → z ≤ℤ y

-- The slack of a net is none exactly when no complete path passes it. Otherwise a complete path through it has that slack, and every other at least as much.
pub record LeastThroughNets (b : Block) (m : Meaning) (o : Order) (slacks : List ℤ) : Type 0 where
  pub says_none : (n : ℕ) → n < length b.nets → (slack_entry slacks n ≡ None) ↔ ((z : ℤ) → ¬ SlackThrough b m o n z)
  pub through : (n : ℕ) (z : ℤ) → n < length b.nets → slack_entry slacks n ≡ Some z → SlackThrough b m o n z
  pub least : (n : ℕ) (z y : ℤ) → n < length b.nets → slack_entry slacks n ≡ Some z → SlackThrough b m o n y → z ≤ℤ y
