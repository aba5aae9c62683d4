-- Kinds given by points, and kinds of fixed figures: what each means. Assumes nothing.
use Rattle.std.specs.Prelude.{◌≡◌, ℕ, suc, ◌+◌, ◌-◌, ◌*◌, ◌/◌, ◌<◌, ◌≤◌, cond, List, [], ◌∷◌, map, length, nat_le, slice_index_or}
use Rattle.units.specs.Steps.{last_step}
use Rattle.models.specs.declared.point.Point.{Point}
use Rattle.models.specs.Meaning.{Meaning, max_delay, where_held}

abbrev pub point_step : Point → ℕ
point_step p = p.step

abbrev pub point_delay : Point → ℕ
point_delay p = p.delay

abbrev pub point_output_step : Point → ℕ
point_output_step p = p.output_step

abbrev pub no_point : Point
no_point = record { step = 0; delay = 0; output_step = 0 }

abbrev pub point_at : List Point → ℕ → Point
point_at ps i = slice_index_or ps i no_point

-- each point's figure is at least `gap` above that of the point before
abbrev pub RisesBy : ℕ → (Point → ℕ) → List Point → Type 0
RisesBy gap f ps = (i : ℕ) → suc i < length ps → f (point_at ps i) + gap ≤ f (point_at ps (suc i))

-- no point's figure is above `top`
abbrev pub AtMost : ℕ → (Point → ℕ) → List Point → Type 0
AtMost top f ps = (i : ℕ) → i < length ps → f (point_at ps i) ≤ top

-- between two points: the lower point's figure plus (difference × steps past the lower ÷ steps between), rounded down
abbrev pub between : (Point → ℕ) → Point → Point → ℕ → ℕ
between f p q s = f p + (f q - f p) * (s - p.step) / (q.step - p.step)

-- The figure at a step, between the first two neighbours of which the upper reaches the step; past the last point, its figure.
abbrev pub interpolated_from : (Point → ℕ) → Point → List Point → ℕ → ℕ
interpolated_from f p [] s = f p
interpolated_from f p (q ∷ ps) s = cond (nat_le s q.step) (between f p q s) (interpolated_from f q ps s)

abbrev pub interpolated : (Point → ℕ) → List Point → ℕ → ℕ
interpolated f [] s = 0
interpolated f (p ∷ ps) s = interpolated_from f p ps s

-- both figures at a step
abbrev pub figures_at : List Point → ℕ → ℕ × ℕ
figures_at ps s = (interpolated point_delay ps s, interpolated point_output_step ps s)

-- The rule of a kind: between any two neighbouring points that hold the step, each figure is the one between them.
abbrev pub Interpolates : List Point → ℕ → ℕ × ℕ → Type 0
Interpolates ps s figures =
    (i : ℕ) → suc i < length ps → point_step (point_at ps i) ≤ s → s ≤ point_step (point_at ps (suc i))
    → (figures.0 ≡ between point_delay (point_at ps i) (point_at ps (suc i)) s)
    × (figures.1 ≡ between point_output_step (point_at ps i) (point_at ps (suc i)) s)

-- a table of both figures at every step
abbrev pub Tabulated : List Point → List (ℕ × ℕ) → Type 0
Tabulated ps table = (s : ℕ) → s ≤ last_step → slice_index_or table s (0, 0) ≡ figures_at ps s

-- no delay at a step is too large
abbrev pub DelaysFit : List Point → Type 0
DelaysFit ps = (s : ℕ) → s ≤ last_step → interpolated point_delay ps s ≤ max_delay

-- r is the first point after the first whose step is at least s
pub record Reaches (ps : List Point) (s r : ℕ) : Type 0 where
  pub past_first : 0 < r
  pub within : r < length ps
  pub above : s ≤ point_step (point_at ps r)
  pub below : point_step (point_at ps (r - 1)) ≤ s
  pub first : (j : ℕ) → 1 ≤ j → j < r → point_step (point_at ps j) < s

-- a kind that is not held
abbrev pub no_figures : ℕ → ℕ × ℕ
no_figures step = (0, 0)

-- what kinds mean that are given by their figures at each step
abbrev pub kinds_meaning : List (ℕ → ℕ × ℕ) → Meaning
kinds_meaning kinds = record {
  count = length kinds;
  delay = where_held (length kinds) (λ k s. (slice_index_or kinds k no_figures s).0);
  output_step = where_held (length kinds) (λ k s. (slice_index_or kinds k no_figures s).1);
}

abbrev pub points_meaning : List (List Point) → Meaning
points_meaning kinds = kinds_meaning (map figures_at kinds)

-- kinds of fixed figures, each a delay and an output step, with each figure in its range

abbrev pub FixedDelaysFit : List (ℕ × ℕ) → Type 0
FixedDelaysFit kinds = (k : ℕ) → (slice_index_or kinds k (0, 0)).0 ≤ max_delay

abbrev pub FixedOutputStepsFit : List (ℕ × ℕ) → Type 0
FixedOutputStepsFit kinds = (k : ℕ) → (slice_index_or kinds k (0, 0)).1 ≤ last_step

-- a kind of fixed figures is its delay and its output step, at every step
abbrev pub fixed_figures : ℕ × ℕ → ℕ → ℕ × ℕ
fixed_figures kind step = kind

abbrev pub fixed_meaning : List (ℕ × ℕ) → Meaning
fixed_meaning kinds = kinds_meaning (map fixed_figures kinds)
