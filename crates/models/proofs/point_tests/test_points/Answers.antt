use Rattle.std.proofs.Common.{rules}
use Rattle.models.specs.PointRows.{step_not_above, delay_falls, output_step_falls, output_step_too_large, NoneFails, FirstFails}
use Rattle.models.proofs.TestedPoints.{count_and_ends_pass, refused_step, refused_delay, refused_output_step_fall, refused_output_step_size, none_refused, steps_rise, delays_rise, output_steps_rise, output_steps_small}
use Rattle.models.proofs.point_tests.test_points.Goals as goal

pub returns-in-Some : goal.returns-in-Some
returns-in-Some c =
    let ps = c.args.points.now in
    let shape = count_and_ends_pass ps (search rules) (search rules) (search rules) (search rules) in
    (refused_step ps _ shape (c.in-Some.ensures step_not_above (λ p q r k. search rules)), tt)

pub returns-in-Some-first_failing : goal.returns-in-Some-first_failing
returns-in-Some-first_failing c =
    let ps = c.args.points.now in
    let shape = count_and_ends_pass ps (search rules) (search rules) (search rules) (search rules) in
    let steps = c.in_default.ensures step_not_above (λ p q r k. search rules) in
    (refused_delay ps _ shape steps (c.in-Some-first_failing.ensures delay_falls (λ p q r k. search rules)), tt)

pub returns-in-Some-first_failing-2 : goal.returns-in-Some-first_failing-2
returns-in-Some-first_failing-2 c =
    let ps = c.args.points.now in
    let shape = count_and_ends_pass ps (search rules) (search rules) (search rules) (search rules) in
    let steps = c.in_default.ensures step_not_above (λ p q r k. search rules) in
    let delays = c.in_default-first_failing.ensures delay_falls (λ p q r k. search rules) in
    (refused_output_step_fall ps _ shape steps delays (c.in-Some-first_failing-2.ensures output_step_falls (λ p q r k. search rules)), tt)

pub returns-in-Some-position : goal.returns-in-Some-position
returns-in-Some-position c =
    let ps = c.args.points.now in
    let shape = count_and_ends_pass ps (search rules) (search rules) (search rules) (search rules) in
    let steps = c.in_default.ensures step_not_above (λ p q r k. search rules) in
    let delays = c.in_default-first_failing.ensures delay_falls (λ p q r k. search rules) in
    let output_steps = c.in_default-first_failing-2.ensures output_step_falls (λ p q r k. search rules) in
    let found : FirstFails 0 output_step_too_large ps c.in-Some-position.i = search rules in
    (refused_output_step_size ps _ shape steps delays output_steps found, tt)

pub returns : goal.returns
returns c =
    let ps = c.args.points.now in
    let shape = count_and_ends_pass ps (search rules) (search rules) (search rules) (search rules) in
    let steps = c.in_default.ensures step_not_above (λ p q r k. search rules) in
    let delays = c.in_default-first_failing.ensures delay_falls (λ p q r k. search rules) in
    let output_steps = c.in_default-first_failing-2.ensures output_step_falls (λ p q r k. search rules) in
    let sizes : NoneFails 0 output_step_too_large ps = search rules in (
      none_refused ps shape steps delays output_steps sizes,
      record {
        enough = search rules;
        few_enough = search rules;
        starts = search rules;
        ends = search rules;
        steps = steps_rise ps steps;
        delays = delays_rise ps delays;
        output_steps = output_steps_rise ps output_steps;
        output_steps_fit = output_steps_small ps sizes;
      },
    )
