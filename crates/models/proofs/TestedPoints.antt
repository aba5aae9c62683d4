-- From what the tests of points found to the first row of a kind that holds. Assumes nothing.
use Rattle.std.proofs.Common.{◌≡◌, ℕ, suc, ◌-◌, ◌<◌, ◌≤◌, Bool, true, false, cond, List, [], ◌∷◌, ◌++◌, length, Some, None, refl, ◌∙◌, arith}
use Rattle.std.specs.Option.{option_or}
use Rattle.std.proofs.lemmas.Bool.{leb-false, ltb-false}
use Rattle.std.proofs.lemmas.Bool.Decides.{nat_tests}
use Rattle.units.specs.Refusals.{Row, first}
use Rattle.units.specs.Steps.{last_step}
use Rattle.units.proofs.FirstRow.{none_holds, first_holds}
use Rattle.models.specs.declared.point.Point.{Point}
use Rattle.models.specs.Faults.{model_refusal}
use Rattle.models.specs.Kinds.{point_step, point_delay, point_output_step, point_at, RisesBy, AtMost}
use Rattle.models.specs.PointRows.{step_not_above, delay_falls, output_step_falls, output_step_too_large, fails_at, rows_from, count_and_end_rows, point_rows, NoneFails, FirstFails}

-- a table that begins with the rows of a test

pub rows_pass : (start : ℕ) (test : Point → Point → Bool) (number : ℕ) (ps : List Point) → NoneFails start test ps → first (rows_from start test number ps) ≡ None
rows_pass start test number ps none =
    none_holds (fails_at test ps) (model_refusal number) start (length ps - start) (λ i l u. none i l (omega arith))

pub rows_fail : (start : ℕ) (test : Point → Point → Bool) (number : ℕ) (ps : List Point) (i : ℕ) → FirstFails start test ps i → first (rows_from start test number ps) ≡ Some (model_refusal number i)
rows_fail start test number ps i found =
    first_holds (fails_at test ps) (model_refusal number) start (length ps - start) i found.from_start (omega (arith, found.from_start, found.within)) found.here found.not_before

-- which row is the first that holds, by what the tests found in turn

pub count_and_ends_pass : (ps : List Point) → 2 ≤ length ps → length ps ≤ 8 → point_step (point_at ps 0) ≡ 0 → point_step (point_at ps (length ps - 1)) ≡ last_step → first (count_and_end_rows ps) ≡ None
count_and_ends_pass ps two eight starts ends = grind (arith, nat_tests)

first-append : (xs ys : List Row) → first (xs ++ ys) ≡ option_or (first xs) (first ys)
first-append [] ys = refl
first-append (r ∷ rs) ys =
    let rest = first-append rs ys in
    elim r.holds as (λ b. cond b (Some r.refusal) (first (rs ++ ys)) ≡ option_or (cond b (Some r.refusal) (first rs)) (first ys)) [ true ↦ refl | false ↦ rest ]

first_of_tables : (a b c d e : List Row) → first (a ++ (b ++ (c ++ (d ++ e)))) ≡ option_or (first a) (option_or (first b) (option_or (first c) (option_or (first d) (first e))))
first_of_tables a b c d e = simp first-append

first_of_rows : (ps : List Point) → first (point_rows ps) ≡ option_or (first (count_and_end_rows ps)) (option_or (first (rows_from 1 step_not_above 4 ps)) (option_or (first (rows_from 1 delay_falls 5 ps)) (option_or (first (rows_from 1 output_step_falls 6 ps)) (first (rows_from 0 output_step_too_large 7 ps)))))
first_of_rows ps = first_of_tables (count_and_end_rows ps) (rows_from 1 step_not_above 4 ps) (rows_from 1 delay_falls 5 ps) (rows_from 1 output_step_falls 6 ps) (rows_from 0 output_step_too_large 7 ps)

pub refused_step : (ps : List Point) (i : ℕ) → first (count_and_end_rows ps) ≡ None → FirstFails 1 step_not_above ps i → first (point_rows ps) ≡ Some (model_refusal 4 i)
refused_step ps i shape found = first_of_rows ps ∙ rw (shape, rows_fail 1 step_not_above 4 ps i found) refl

pub refused_delay : (ps : List Point) (i : ℕ) → first (count_and_end_rows ps) ≡ None → NoneFails 1 step_not_above ps → FirstFails 1 delay_falls ps i → first (point_rows ps) ≡ Some (model_refusal 5 i)
refused_delay ps i shape steps found =
    first_of_rows ps ∙ rw (shape, rows_pass 1 step_not_above 4 ps steps, rows_fail 1 delay_falls 5 ps i found) refl

pub refused_output_step_fall : (ps : List Point) (i : ℕ) → first (count_and_end_rows ps) ≡ None → NoneFails 1 step_not_above ps → NoneFails 1 delay_falls ps → FirstFails 1 output_step_falls ps i → first (point_rows ps) ≡ Some (model_refusal 6 i)
refused_output_step_fall ps i shape steps delays found =
    first_of_rows ps ∙ rw (shape, rows_pass 1 step_not_above 4 ps steps, rows_pass 1 delay_falls 5 ps delays, rows_fail 1 output_step_falls 6 ps i found) refl

pub refused_output_step_size : (ps : List Point) (i : ℕ) → first (count_and_end_rows ps) ≡ None → NoneFails 1 step_not_above ps → NoneFails 1 delay_falls ps → NoneFails 1 output_step_falls ps → FirstFails 0 output_step_too_large ps i → first (point_rows ps) ≡ Some (model_refusal 7 i)
refused_output_step_size ps i shape steps delays output_steps found =
    first_of_rows ps ∙ rw (shape, rows_pass 1 step_not_above 4 ps steps, rows_pass 1 delay_falls 5 ps delays, rows_pass 1 output_step_falls 6 ps output_steps, rows_fail 0 output_step_too_large 7 ps i found) refl

pub none_refused : (ps : List Point) → first (count_and_end_rows ps) ≡ None → NoneFails 1 step_not_above ps → NoneFails 1 delay_falls ps → NoneFails 1 output_step_falls ps → NoneFails 0 output_step_too_large ps → first (point_rows ps) ≡ None
none_refused ps shape steps delays output_steps sizes =
    first_of_rows ps ∙ rw (shape, rows_pass 1 step_not_above 4 ps steps, rows_pass 1 delay_falls 5 ps delays, rows_pass 1 output_step_falls 6 ps output_steps, rows_pass 0 output_step_too_large 7 ps sizes) refl

-- a point that passes stands as it should to the one before it

at_next : (test : Point → Point → Bool) (ps : List Point) → NoneFails 1 test ps → (i : ℕ) → suc i < length ps → test (point_at ps i) (point_at ps (suc i)) ≡ false
at_next test ps none i l = let e : suc i - 1 ≡ i = omega arith in rw e at (none (suc i) (omega arith) l)

pub steps_rise : (ps : List Point) → NoneFails 1 step_not_above ps → RisesBy 1 point_step ps
steps_rise ps none i l = omega (arith, leb-false _ _ (at_next step_not_above ps none i l))

pub delays_rise : (ps : List Point) → NoneFails 1 delay_falls ps → RisesBy 0 point_delay ps
delays_rise ps none i l = omega (arith, ltb-false _ _ (at_next delay_falls ps none i l))

pub output_steps_rise : (ps : List Point) → NoneFails 1 output_step_falls ps → RisesBy 0 point_output_step ps
output_steps_rise ps none i l = omega (arith, ltb-false _ _ (at_next output_step_falls ps none i l))

pub output_steps_small : (ps : List Point) → NoneFails 0 output_step_too_large ps → AtMost last_step point_output_step ps
output_steps_small ps none i l = ltb-false _ _ (none i (omega arith) l)
