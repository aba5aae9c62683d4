-- What holds of a settled block without a cycle, for a lawful model and a sense. Assumes nothing.
use Rattle.std.specs.Prelude.{ℕ, ◌≤◌, List, length}
use Rattle.units.specs.Senses.{Order}
use Rattle.models.specs.Meaning.{Meaning}
use Rattle.paths.specs.Blocks.{Block, max_path}
use Rattle.paths.specs.Runs.{Run}
use Rattle.paths.specs.ArcByArc.{CoveringCarried, FiguresUnique}
use Rattle.paths.specs.Ranges.{RangesHold}

pub record TimingFacts (b : Block) (m : Meaning) (o : Order) : Type 0 where
  -- covering is carried along any run
  pub covering : CoveringCarried b m o
  -- a run has at most 255 arcs
  pub short : (n end : ℕ) (is : List ℕ) → Run b n is end → length is ≤ max_path
  -- times, required times and slacks stay in their ranges
  pub ranges : RangesHold b m o
  -- and each figure, and the time of a kept signal of a step, is the only one
  pub unique : FiguresUnique b m o
