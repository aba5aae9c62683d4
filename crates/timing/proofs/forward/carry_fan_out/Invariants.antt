use Rattle.std.proofs.Common.{◌*◌, ◌≤◌}
use Rattle.units.specs.Steps.{step_count}
use Rattle.timing.proofs.forward.carry_fan_out.Given as goal

abbrev pub invariant-loop-number : goal.invariant-loop-number
invariant-loop-number g l = l.carried ≤ step_count * l.number-index
