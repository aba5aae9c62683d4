use Rattle.std.proofs.Common.{arith, rules}
use Rattle.models.proofs.point_tests.first_failing.Goals as goal

pub returns : goal.returns
returns g c = λ test computes. record {
  from_start = omega arith;
  within = search rules;
  here = search rules;
  not_before = λ j l u. search rules;
}
