-- When the points of a kind are refused: the rows downwards, each over all points before the next. Assumes nothing.
use Rattle.std.specs.Prelude.{◌≡◌, ℕ, ◌-◌, ◌<◌, ◌≤◌, Bool, true, false, not, List, [], ◌∷◌, ◌++◌, map, length, ◌==◌, nat_le, nat_lt}
use Rattle.std.specs.List.{range_with_len}
use Rattle.units.specs.Refusals.{Row}
use Rattle.units.specs.Steps.{last_step}
use Rattle.models.specs.declared.point.Point.{Point}
use Rattle.models.specs.Faults.{row}
use Rattle.models.specs.Kinds.{point_step, point_delay, point_output_step, point_at, RisesBy, AtMost}

-- the fewest and the most points of a kind

abbrev pub min_points : ℕ
min_points = 2

abbrev pub max_points : ℕ
max_points = 8

-- tests of a point against the point before it

abbrev pub step_not_above : Point → Point → Bool
step_not_above before here = nat_le (point_step here) (point_step before)

abbrev pub delay_falls : Point → Point → Bool
delay_falls before here = nat_lt (point_delay here) (point_delay before)

abbrev pub output_step_falls : Point → Point → Bool
output_step_falls before here = nat_lt (point_output_step here) (point_output_step before)

-- a test of the point alone
abbrev pub output_step_too_large : Point → Point → Bool
output_step_too_large before here = nat_lt last_step (point_output_step here)

-- The point of a number fails a test. At point 0, which only the last test looks at, there is no point before.
abbrev pub fails_at : (Point → Point → Bool) → List Point → ℕ → Bool
fails_at test ps i = test (point_at ps (i - 1)) (point_at ps i)

-- one row for each point from the one numbered `start` on
abbrev pub rows_from : ℕ → (Point → Point → Bool) → ℕ → List Point → List Row
rows_from start test number ps = map (λ i. row (fails_at test ps i) number i) (range_with_len start (length ps - start))

-- the count of points, the first step and the last
abbrev pub count_and_end_rows : List Point → List Row
count_and_end_rows ps =
    row (nat_lt (length ps) min_points) 2 (length ps)
    ∷ row (nat_lt max_points (length ps)) 2 (length ps)
    ∷ row (not (point_step (point_at ps 0) == 0)) 3 0
    ∷ row (not (point_step (point_at ps (length ps - 1)) == last_step)) 3 (length ps - 1)
    ∷ []

abbrev pub point_rows : List Point → List Row
point_rows ps =
    count_and_end_rows ps
    ++ (rows_from 1 step_not_above 4 ps
    ++ (rows_from 1 delay_falls 5 ps
    ++ (rows_from 1 output_step_falls 6 ps
    ++ rows_from 0 output_step_too_large 7 ps)))

-- no point from `start` on fails
abbrev pub NoneFails : ℕ → (Point → Point → Bool) → List Point → Type 0
NoneFails start test ps = (i : ℕ) → start ≤ i → i < length ps → fails_at test ps i ≡ false

-- the first point from `start` on that fails
pub record FirstFails (start : ℕ) (test : Point → Point → Bool) (ps : List Point) (i : ℕ) : Type 0 where
  pub from_start : start ≤ i
  pub within : i < length ps
  pub here : fails_at test ps i ≡ true
  pub not_before : (j : ℕ) → start ≤ j → j < i → fails_at test ps j ≡ false

-- what points that are not refused fulfil
pub record WellFormed (ps : List Point) : Type 0 where
  pub enough : min_points ≤ length ps
  pub few_enough : length ps ≤ max_points
  pub starts : point_step (point_at ps 0) ≡ 0
  pub ends : point_step (point_at ps (length ps - 1)) ≡ last_step
  pub steps : RisesBy 1 point_step ps
  pub delays : RisesBy 0 point_delay ps
  pub output_steps : RisesBy 0 point_output_step ps
  pub output_steps_fit : AtMost last_step point_output_step ps
