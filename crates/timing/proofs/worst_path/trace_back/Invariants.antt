use Rattle.std.proofs.Common.{◌≤◌}
use Rattle.paths.specs.Blocks.{max_path}
use Rattle.timing.proofs.worst_path.trace_back.Given as goal

abbrev pub invariant-loop-count : goal.invariant-loop-count
invariant-loop-count l = l.count-end ≤ max_path
