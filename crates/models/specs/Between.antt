-- Figures between points: within their range, never falling, and found from the first point that reaches the step. Assumes nothing.
use Rattle.std.specs.Prelude.{◌≡◌, ℕ, zero, suc, ◌+◌, ◌-◌, ◌*◌, ◌/◌, ◌<◌, ◌≤◌, cond, List, [], ◌∷◌, length, nat_le, refl}
use Rattle.std.proofs.Common.{sym, ap, ◌∙◌, zero-le, suc-le-suc, le_refl, le_of_eq, le_trans, mul-le-mul_left, mul_comm, div-mul-le_self, le-div_iff_mul-le, le_of_suc-le-suc, not-suc-le-zero, mul-div_cancel, mul-zero, add-zero, arith}
use Rattle.std.proofs.Math.Nat.{div-le_of_le-mul, zero-div}
use Rattle.std.proofs.lemmas.Bool.Decides.{nat_tests}
use Rattle.models.specs.declared.point.Point.{Point}
use Rattle.models.specs.Kinds.{point_step, point_at, RisesBy, AtMost, between, interpolated_from, interpolated}

pub div_rises : (n : ℕ) {x y : ℕ} → 0 < n → x ≤ y → x / n ≤ y / n
div_rises n {x} {y} n0 h = (le-div_iff_mul-le n0).1 (le_trans (div-mul-le_self x n) h)

-- a part of the way from one figure up to another
pub part_at_most : (low high past span : ℕ) → low ≤ high → past ≤ span → low + (high - low) * past / span ≤ high
part_at_most low high past span a b =
    let y : (high - low) * past ≤ span * (high - low) = le_trans (mul-le-mul_left (high - low) b) (le_of_eq (mul_comm (high - low) span)) in
    omega (arith, div-le_of_le-mul span y)

between_rises : (f : Point → ℕ) (p q : Point) {s t : ℕ} → p.step < q.step → s ≤ t → between f p q s ≤ between f p q t
between_rises f p q {s} {t} st le =
    let k : 0 < q.step - p.step = omega arith in
    let x : s - p.step ≤ t - p.step = omega arith in
    omega (arith, div_rises (q.step - p.step) k (mul-le-mul_left (f q - f p) x))

between_at_most : (f : Point → ℕ) (p q : Point) {s : ℕ} → f p ≤ f q → s ≤ q.step → between f p q s ≤ f q
between_at_most f p q {s} fs le = part_at_most (f p) (f q) (s - p.step) (q.step - p.step) fs (omega arith)

-- the first two points, and the points after the first

first_rises : (f : Point → ℕ) (g : ℕ) (p q : Point) (ps : List Point) → RisesBy g f (p ∷ q ∷ ps) → f p + g ≤ f q
first_rises f g p q ps h = h 0 (suc-le-suc (suc-le-suc zero-le))

rest_rises : (f : Point → ℕ) (g : ℕ) (p : Point) (ps : List Point) → RisesBy g f (p ∷ ps) → RisesBy g f ps
rest_rises f g p ps h i l = h (suc i) (suc-le-suc l)

rest_at_most : (f : Point → ℕ) (m : ℕ) (p : Point) (ps : List Point) → AtMost m f (p ∷ ps) → AtMost m f ps
rest_at_most f m p ps h i l = h (suc i) (suc-le-suc l)

from_above : (f : Point → ℕ) (p : Point) (ps : List Point) (s : ℕ) → RisesBy 0 f (p ∷ ps) → f p ≤ interpolated_from f p ps s
from_above f p [] s h = le_refl (f p)
from_above f p (q ∷ ps) s h =
    let i : f q ≤ interpolated_from f q ps s = from_above f q ps s (rest_rises f 0 p (q ∷ ps) h) in
    let j : f p + 0 ≤ f q = first_rises f 0 p q ps h in
    let k : f p ≤ between f p q s = omega arith in
    grind (arith, nat_tests)

from_rises : (f : Point → ℕ) (p : Point) (ps : List Point) (s t : ℕ) → RisesBy 1 point_step (p ∷ ps) → RisesBy 0 f (p ∷ ps) → s ≤ t → interpolated_from f p ps s ≤ interpolated_from f p ps t
from_rises f p [] s t hs hf le = le_refl (f p)
from_rises f p (q ∷ ps) s t hs hf le =
    let i : interpolated_from f q ps s ≤ interpolated_from f q ps t = from_rises f q ps s t (rest_rises point_step 1 p (q ∷ ps) hs) (rest_rises f 0 p (q ∷ ps) hf) le in
    let a : f q ≤ interpolated_from f q ps t = from_above f q ps t (rest_rises f 0 p (q ∷ ps) hf) in
    let st : p.step + 1 ≤ q.step = first_rises point_step 1 p q ps hs in
    let j : f p + 0 ≤ f q = first_rises f 0 p q ps hf in
    let b : between f p q s ≤ between f p q t = between_rises f p q (omega arith) le in
    let u : s ≤ q.step → between f p q s ≤ f q = between_at_most f p q (omega arith) in
    grind (arith, nat_tests, u)

from_at_most : (f : Point → ℕ) (m : ℕ) (p : Point) (ps : List Point) (s : ℕ) → RisesBy 0 f (p ∷ ps) → AtMost m f (p ∷ ps) → interpolated_from f p ps s ≤ m
from_at_most f m p [] s hf hu = hu 0 (suc-le-suc zero-le)
from_at_most f m p (q ∷ ps) s hf hu =
    let i : interpolated_from f q ps s ≤ m = from_at_most f m q ps s (rest_rises f 0 p (q ∷ ps) hf) (rest_at_most f m p (q ∷ ps) hu) in
    let j : f p + 0 ≤ f q = first_rises f 0 p q ps hf in
    let k : f q ≤ m = hu 1 (suc-le-suc (suc-le-suc zero-le)) in
    let u : s ≤ q.step → between f p q s ≤ f q = between_at_most f p q (omega arith) in
    grind (arith, nat_tests, u)

pub interpolated_rises : (f : Point → ℕ) (ps : List Point) (s t : ℕ) → RisesBy 1 point_step ps → RisesBy 0 f ps → s ≤ t → interpolated f ps s ≤ interpolated f ps t
interpolated_rises f [] s t hs hf le = zero-le
interpolated_rises f (p ∷ ps) s t hs hf le = from_rises f p ps s t hs hf le

pub interpolated_at_most : (f : Point → ℕ) (m : ℕ) (ps : List Point) (s : ℕ) → RisesBy 0 f ps → AtMost m f ps → interpolated f ps s ≤ m
interpolated_at_most f m [] s hf hu = zero-le
interpolated_at_most f m (p ∷ ps) s hf hu = from_at_most f m p ps s hf hu

-- the first point after p that reaches the step
from_first : (f : Point → ℕ) (p : Point) (ps : List Point) (i s : ℕ) → i < length ps → ((j : ℕ) → j < i → point_step (point_at ps j) < s) → s ≤ point_step (point_at ps i) → interpolated_from f p ps s ≡ between f (point_at (p ∷ ps) i) (point_at ps i) s
from_first f p [] i s l below reach = absurd (not-suc-le-zero l)
from_first f p (q ∷ ps) zero s l below reach = grind (arith, nat_tests)
from_first f p (q ∷ ps) (suc i) s l below reach =
    let lt : q.step < s = below 0 (suc-le-suc zero-le) in
    let rest = from_first f q ps i s (le_of_suc-le-suc l) (λ j k. below (suc j) (suc-le-suc k)) reach in
    grind (arith, nat_tests)

pub interpolated_first : (f : Point → ℕ) (ps : List Point) (r s : ℕ) → 0 < r → r < length ps → ((j : ℕ) → 1 ≤ j → j < r → point_step (point_at ps j) < s) → s ≤ point_step (point_at ps r) → interpolated f ps s ≡ between f (point_at ps (r - 1)) (point_at ps r) s
interpolated_first f [] r s z l below reach = absurd (not-suc-le-zero l)
interpolated_first f (p ∷ ps) zero s z l below reach = absurd (not-suc-le-zero z)
interpolated_first f (p ∷ ps) (suc i) s z l below reach =
    let e : suc i - 1 ≡ i = omega arith in
    rw e (from_first f p ps i s (le_of_suc-le-suc l) (λ j k. below (suc j) (suc-le-suc zero-le) (suc-le-suc k)) reach)

-- a point against the one before it
pub rises_before : (gap : ℕ) (f : Point → ℕ) (ps : List Point) (r : ℕ) → RisesBy gap f ps → 0 < r → r < length ps → f (point_at ps (r - 1)) + gap ≤ f (point_at ps r)
rises_before gap f ps zero h z l = absurd (not-suc-le-zero z)
rises_before gap f ps (suc i) h z l = let e : suc i - 1 ≡ i = omega arith in rw e (h i l)

-- any two neighbours that hold the step give the figure

between_upper : (f : Point → ℕ) (p q : Point) → f p ≤ f q → p.step < q.step → between f p q q.step ≡ f q
between_upper f p q fs st =
    let k : 0 < q.step - p.step = omega arith in
    let e : (f q - f p) * (q.step - p.step) / (q.step - p.step) ≡ f q - f p = mul-div_cancel (f q - f p) k in
    omega (arith, e)

between_lower : (f : Point → ℕ) (p q : Point) → between f p q p.step ≡ f p
between_lower f p q = let e : p.step - p.step ≡ 0 = omega arith in rw (e, mul-zero, zero-div, add-zero) refl

-- a later point has a larger step
later : (p : Point) (ps : List Point) (j : ℕ) → RisesBy 1 point_step (p ∷ ps) → j < length ps → p.step < point_step (point_at ps j)
later p [] j h l = absurd (not-suc-le-zero l)
later p (q ∷ ps) zero h l = omega (arith, first_rises point_step 1 p q ps h)
later p (q ∷ ps) (suc j) h l =
    omega (arith, first_rises point_step 1 p q ps h, later q ps j (rest_rises point_step 1 p (q ∷ ps) h) (le_of_suc-le-suc l))

where_reached : (s n x y v : ℕ) → (s ≤ n → x ≡ v) → y ≡ v → cond (nat_le s n) x y ≡ v
where_reached s n x y v h e = grind (arith, nat_tests, h)

from_neighbours : (f : Point → ℕ) (p : Point) (ps : List Point) (i s : ℕ) → RisesBy 1 point_step (p ∷ ps) → RisesBy 0 f (p ∷ ps) → suc i < length (p ∷ ps) → point_step (point_at (p ∷ ps) i) ≤ s → s ≤ point_step (point_at (p ∷ ps) (suc i)) → interpolated_from f p ps s ≡ between f (point_at (p ∷ ps) i) (point_at (p ∷ ps) (suc i)) s
from_neighbours f p [] i s hs hf l lo hi = absurd (not-suc-le-zero (le_of_suc-le-suc l))
from_neighbours f p (q ∷ ps) zero s hs hf l lo hi = grind (arith, nat_tests)
from_neighbours f p (q ∷ []) (suc j) s hs hf l lo hi = absurd (not-suc-le-zero (le_of_suc-le-suc (le_of_suc-le-suc l)))
from_neighbours f p (q ∷ r ∷ ps) (suc zero) s hs hf l lo hi =
    let e : interpolated_from f q (r ∷ ps) s ≡ between f q r s = from_neighbours f q (r ∷ ps) zero s (rest_rises point_step 1 p (q ∷ r ∷ ps) hs) (rest_rises f 0 p (q ∷ r ∷ ps) hf) (le_of_suc-le-suc l) lo hi in
    let st : p.step + 1 ≤ q.step = first_rises point_step 1 p q (r ∷ ps) hs in
    let j : f p + 0 ≤ f q = first_rises f 0 p q (r ∷ ps) hf in
    let here : s ≡ q.step → between f p q s ≡ between f q r s =
    λ w. ap (between f p q) w ∙ between_upper f p q (omega arith) (omega arith) ∙ sym (between_lower f q r) ∙ ap (between f q r) (sym w) in
    where_reached s q.step (between f p q s) (interpolated_from f q (r ∷ ps) s) (between f q r s) (λ le. here (omega arith)) e
from_neighbours f p (q ∷ r ∷ ps) (suc (suc j)) s hs hf l lo hi =
    let e : interpolated_from f q (r ∷ ps) s ≡ between f (point_at (r ∷ ps) j) (point_at (r ∷ ps) (suc j)) s = from_neighbours f q (r ∷ ps) (suc j) s (rest_rises point_step 1 p (q ∷ r ∷ ps) hs) (rest_rises f 0 p (q ∷ r ∷ ps) hf) (le_of_suc-le-suc l) lo hi in
    let k : j < length (r ∷ ps) = omega arith in
    let a : q.step < point_step (point_at (r ∷ ps) j) = later q (r ∷ ps) j (rest_rises point_step 1 p (q ∷ r ∷ ps) hs) k in
    where_reached s q.step (between f p q s) (interpolated_from f q (r ∷ ps) s) (between f (point_at (r ∷ ps) j) (point_at (r ∷ ps) (suc j)) s) (λ le. absurd (omega arith)) e

pub interpolated_between : (f : Point → ℕ) (ps : List Point) (i s : ℕ) → RisesBy 1 point_step ps → RisesBy 0 f ps → suc i < length ps → point_step (point_at ps i) ≤ s → s ≤ point_step (point_at ps (suc i)) → interpolated f ps s ≡ between f (point_at ps i) (point_at ps (suc i)) s
interpolated_between f [] i s hs hf l lo hi = absurd (not-suc-le-zero l)
interpolated_between f (p ∷ ps) i s hs hf l lo hi = from_neighbours f p ps i s hs hf l lo hi
