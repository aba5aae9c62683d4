-- The table is the rule at each of the steps, which antt computes.
use Rattle.std.proofs.Common.{arith}
use Rattle.std.proofs.lemmas.List.FromFn.{get_or-map-range_with_len}
use Rattle.units.specs.Steps.{step_count, picoseconds}
use Rattle.units.proofs.steps.picoseconds_of.Goals as goal

pub returns : goal.returns
returns c = get_or-map-range_with_len picoseconds 0 step_count c.args.step c.args.step 0 (omega arith) (omega arith)
