use Rattle.std.proofs.Common.{◌*◌, ◌≤◌}
use Rattle.paths.specs.Blocks.{max_arcs}
use Rattle.units.specs.Steps.{step_count}
use Rattle.timing.proofs.forward.propagate.Given as goal

abbrev pub invariant-loop-net : goal.invariant-loop-net
invariant-loop-net g l = l.carried ≤ step_count * max_arcs * l.net-index
