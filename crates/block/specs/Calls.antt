-- What calls on a settled block answer. Assumes nothing.
use Rattle.std.specs.Prelude.{◌≡◌, ℕ, ◌≢◌, ◌⊎◌, Some, None, Ok, Err, Result}
use Rattle.units.specs.declared.refusals.Refusal.{Refusal}
use Rattle.units.specs.Senses.{Order}
use Rattle.models.specs.Meaning.{Meaning}
use Rattle.paths.specs.Blocks.{Block}
use Rattle.paths.specs.Cycles.{CycleAt}
use Rattle.timing.specs.declared.answers.Answer.{Answer}
use Rattle.timing.specs.Timed.{Areas, TimeOutcome, WorstPath, LeastThroughNets}
use Rattle.block.specs.declared.faults.TimeFault.{TimeFault}
use Rattle.block.specs.Faults.{block_refusal, refusal_of}

-- On a block with a cycle a call is refused with 13, at the lowest net on one or reachable from one, and changes nothing; on any other it is never refused so.
abbrev pub CycleFirst : {X F : Type 0} → (F → Refusal) → Block → Result X F → Type 0 → Type 0
CycleFirst name b (Ok _) same = CycleAt b None
CycleFirst name b (Err f) same = (CycleAt b None × ((name f).number ≢ 13)) ⊎ ((n : ℕ) × (name f ≡ block_refusal 13 n) × CycleAt b (Some n) × same)

-- The next three are for the contract of a timing's figures; none cites them yet.

-- Where there is no cycle, a timing is refused by its own rows with the areas as they were, or it is timed.
abbrev pub TimedAfterCycles : Block → Meaning → Order → Areas → Result Answer TimeFault → Areas → Type 0
TimedAfterCycles b m o was r is = CycleAt b None → TimeOutcome refusal_of b m o was r is

-- an accepted timing answers a worst path
abbrev pub WorstPathAnswered : Block → Meaning → Order → Areas → Result Answer TimeFault → Type 0
WorstPathAnswered b m o is (Ok a) = WorstPath b m o is.path a
WorstPathAnswered b m o is (Err f) = Unit {0}

-- and fills in the slack of each net by the paths through it
abbrev pub NetSlacksAnswered : Block → Meaning → Order → Areas → Result Answer TimeFault → Type 0
NetSlacksAnswered b m o is (Ok a) = LeastThroughNets b m o is.slacks
NetSlacksAnswered b m o is (Err f) = Unit {0}
