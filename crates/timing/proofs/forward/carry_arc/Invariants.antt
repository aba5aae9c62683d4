use Rattle.std.proofs.Common.{◌≤◌}
use Rattle.timing.proofs.forward.carry_arc.Given as goal

abbrev pub invariant-loop-step : goal.invariant-loop-step
invariant-loop-step g l = l.carried ≤ l.step
