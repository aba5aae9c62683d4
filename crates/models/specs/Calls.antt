-- What the calls on models answer and leave. Assumes nothing.
use Rattle.std.specs.Prelude.{◌≡◌, ℕ, List, [], ◌∷◌, ◌++◌, map, length, vec_items, Result, nat_lt}
use Rattle.units.specs.Refusals.{Outcome}
use Rattle.units.specs.Steps.{last_step}
use Rattle.models.specs.declared.faults.ModelFault.{ModelFault}
use Rattle.models.specs.declared.point.Point.{Point}
use Rattle.models.specs.declared.curve.Curve.{Curve}
use Rattle.models.specs.declared.fixed.kind.FixedKind.{FixedKind}
use Rattle.models.specs.declared.kinds.Kinds.{Kinds}
use Rattle.models.specs.Curves.{kinds_of}
use Rattle.models.specs.FixedKinds.{figures_of}
use Rattle.models.specs.Faults.{row, full_row, refusal_of}
use Rattle.models.specs.Derating.{max_percent}
use Rattle.models.specs.PointRows.{point_rows}

-- the points of each kind of a model, in the order of adding
abbrev pub kinds_in : Kinds Curve → List (List Point)
kinds_in p = kinds_of (vec_items p.held)

-- the delay and the output step of each kind of a model of fixed figures
abbrev pub fixed_in : Kinds FixedKind → List (ℕ × ℕ)
fixed_in f = map figures_of (vec_items f.held)

-- a kind added by its points: the kinds before, the points, the answer, the kinds after
abbrev pub PointsAdded : List (List Point) → List Point → Result ℕ ModelFault → List (List Point) → Type 0
PointsAdded kinds points r after =
    Outcome refusal_of (full_row (length kinds) ∷ point_rows points) r
    (λ kind. (kind ≡ length kinds) × (after ≡ kinds ++ points ∷ []))
    (after ≡ kinds)

-- a kind of fixed figures added
abbrev pub FixedAdded : List (ℕ × ℕ) → ℕ → ℕ → Result ℕ ModelFault → List (ℕ × ℕ) → Type 0
FixedAdded kinds delay output r after =
    Outcome refusal_of (full_row (length kinds) ∷ row (nat_lt last_step output) 7 0 ∷ []) r
    (λ kind. (kind ≡ length kinds) × (after ≡ kinds ++ (delay, output) ∷ []))
    (after ≡ kinds)

-- a percentage set: the one before, the one asked for, the answer, the one after
abbrev pub PercentSet : ℕ → ℕ → Result (Unit {0}) ModelFault → ℕ → Type 0
PercentSet before percent r after =
    Outcome refusal_of (row (nat_lt percent 1) 8 percent ∷ row (nat_lt max_percent percent) 8 percent ∷ []) r
    (λ _. after ≡ percent)
    (after ≡ before)
