-- The point that reaches a step, from where the points below the step end. Assumes nothing.
use Rattle.std.proofs.Common.{◌≡◌, ℕ, suc, ◌+◌, ◌-◌, ◌<◌, ◌≤◌, max, ltb, true, false, List, length, get_or, drop, Some, None, Option, MatchOption, zero-le, add-one, ◌∙◌, inl, inr, arith}
use Rattle.std.proofs.lemmas.Bool.{ltb-true, ltb-false}
use Rattle.std.proofs.lemmas.Bool.{cases_lt}
use Rattle.std.proofs.lemmas.Grind.{common_steps, get_or_after_one}
use Rattle.std.proofs.lemmas.List.{get_or_default, get_or-take}
use Rattle.std.proofs.lemmas.List.Sorted.{IsNonDecreasingBy-from_all_adjacent}
use Rattle.std.specs.List.{slice_range, AllWithin, HoldsAt}
use Rattle.std.specs.List.Sorted.{IsNonDecreasingBy, IsPartitionPoint}
use Rattle.units.specs.Steps.{last_step}
use Rattle.models.specs.declared.point.Point.{Point}
use Rattle.models.specs.Kinds.{point_step, point_at, no_point, RisesBy, Reaches}
use Rattle.models.specs.PointRows.{WellFormed}

pub never_falls : (gap : ℕ) (f : Point → ℕ) (ps : List Point) → RisesBy gap f ps → IsNonDecreasingBy f ps
never_falls gap f ps h = IsNonDecreasingBy-from_all_adjacent f ps (λ k d l.
    let next = h k (rw add-one at l) in
    let here = get_or_default ps k d no_point (omega arith) in
    let above = get_or_default ps (suc k) d no_point (omega arith) in
    rw (here, add-one, above) (omega arith))

pub reaches_step : (ps : List Point) (s r : ℕ) → WellFormed ps → s ≤ last_step → r ≤ length ps → IsPartitionPoint (λ p. ltb (point_step p) s ≡ true) (λ p. ltb (point_step p) s ≡ false) ps r → Reaches ps s (max r 1)
reaches_step ps s r formed le bound part =
    let below : (j : ℕ) → j < r → point_step (point_at ps j) < s = λ j l. ltb-true _ s (part.0 j no_point zero-le l) in
    let from : (j : ℕ) → r ≤ j → j < length ps → s ≤ point_step (point_at ps j) = λ j l u. ltb-false _ s (part.1 j no_point l u) in
    let last : length ps - 1 < r → last_step < s = λ l. rw formed.ends at (below (length ps - 1) l) in
    let inside : r < length ps = grind (arith, last, formed.enough, bound, le) in
    let within : max r 1 < length ps = omega (arith, formed.enough, inside) in
    let before : max r 1 - 1 < r → point_step (point_at ps (max r 1 - 1)) < s = below (max r 1 - 1) in
    let start : r ≡ 0 → point_step (point_at ps (max r 1 - 1)) ≡ 0 = λ e. rw e formed.starts in
    record {
      past_first = omega arith;
      within = within;
      above = from (max r 1) (omega arith) within;
      below = grind (arith, before, start);
      first = λ j one l. below j (omega arith);
    }

-- a point reaches a step if it is as high and those between the first and it are below
reaches : (ps : List Point) (s r : ℕ) → WellFormed ps → 0 < r → r < length ps → s ≤ point_step (point_at ps r) → ((j : ℕ) → 1 ≤ j → j < r → point_step (point_at ps j) < s) → Reaches ps s r
reaches ps s r formed past within above first = record {
  past_first = past;
  within = within;
  above = above;
  below = elim (cases_lt 1 r) [
    | inl more ↦ let under = first (r - 1) (omega arith) (omega arith) in omega arith
    | inr one ↦ let here : r - 1 ≡ 0 = omega arith in rw (here, formed.starts) zero-le
  ];
  first = first;
}

-- the points between the first and the last
abbrev pub inner : List Point → List Point
inner ps = slice_range ps 1 (length ps - 1)

inner_at : (ps : List Point) (k : ℕ) → k < length ps - 2 → get_or (inner ps) k no_point ≡ point_at ps (1 + k)
inner_at ps k lt = get_or-take (length ps - 1 - 1) (drop 1 ps) k no_point (omega arith) ∙ get_or_after_one ps k no_point

pub inner_long : (ps : List Point) → length (inner ps) ≡ length ps - 2
inner_long ps = grind (arith, common_steps)

-- the first of the points between that is as high reaches the step; else the last one does
pub reaches_from_inner : (ps : List Point) (s : ℕ) → WellFormed ps → s ≤ last_step → (r : Option ℕ) → MatchOption r (AllWithin (λ p. point_step p < s) (inner ps) 0 (length (inner ps))) (λ i. (i < length (inner ps)) × HoldsAt (λ p. s ≤ point_step p) (inner ps) i × AllWithin (λ p. point_step p < s) (inner ps) 0 i) → MatchOption r (Reaches ps s (length ps - 1)) (λ i. Reaches ps s (i + 1))
reaches_from_inner ps s formed le None all =
    let enough = formed.enough in
    let long = inner_long ps in
    reaches ps s (length ps - 1) formed (omega arith) (omega arith) (rw formed.ends le) (λ j one l.
    let same : get_or (inner ps) (j - 1) no_point ≡ point_at ps (1 + (j - 1)) = inner_at ps (j - 1) (omega arith) in
    let at : 1 + (j - 1) ≡ j = omega arith in
    rw (same, at) at (all (j - 1) no_point zero-le (omega arith)))
reaches_from_inner ps s formed le (Some i) (inside, here, before) =
    let long = inner_long ps in
    let same : get_or (inner ps) i no_point ≡ point_at ps (1 + i) = inner_at ps i (omega arith) in
    let up : 1 + i ≡ i + 1 = omega arith in
    reaches ps s (i + 1) formed (omega arith) (omega arith) (rw (same, up) at (here no_point)) (λ j one l.
    let same' : get_or (inner ps) (j - 1) no_point ≡ point_at ps (1 + (j - 1)) = inner_at ps (j - 1) (omega arith) in
    let at : 1 + (j - 1) ≡ j = omega arith in
    rw (same', at) at (before (j - 1) no_point zero-le (omega arith)))
