-- Sums of the signals that rows keep and arcs carry. Assumes nothing.
use Rattle.std.proofs.Common.{◌≡◌, ℕ, zero, suc, ◌+◌, ◌*◌, ◌<◌, ◌≤◌, Bool, true, false, cond, List, Some, None, Option, sym, refl, ap, ◌∙◌, add-one, arith}
use native.Mathlib.Decide.{ℕ_discrete}
use Rattle.units.specs.Steps.{step_count}
use Rattle.paths.specs.declared.blocks.Arc.{Arc}
use Rattle.paths.specs.Blocks.{tail_of}
use Rattle.paths.specs.CarriedCounts.{sum_below}
use Rattle.paths.specs.ArcByArc.{one_if_some}
use Rattle.paths.proofs.CountedRows.{sum_below_same, sum_below_at_most}
use Rattle.timing.specs.declared.answers.SignalRecord.{SignalRecord}
use Rattle.timing.specs.Areas.{held_by}
use Rattle.timing.specs.Offers.{Records, kept_below, carried_where}

pub sum_more : (f : ℕ → ℕ) (k : ℕ) → sum_below f (k + 1) ≡ sum_below f k + f k
sum_more f k = ap (sum_below f) (add-one k) ∙ omega arith

-- terms that are 0 add nothing
pub sum_stays : (f : ℕ → ℕ) (k l : ℕ) → k ≤ l → ((i : ℕ) → k ≤ i → i < l → f i ≡ 0) → sum_below f l ≡ sum_below f k
sum_stays f k zero le none = let e : k ≡ 0 = omega arith in ap (sum_below f) (sym e)
sum_stays f k (suc l) le none = elim (ℕ_discrete k (suc l)) [
  | yes e ↦ ap (sum_below f) (sym e)
  | no e ↦
      let here = none l (omega arith) (omega arith) in
      let below = sum_stays f k l (omega arith) (λ i ge lt. none i ge (omega arith)) in
      omega arith
]

-- two sums as one
pub sum_added : (f g h : ℕ → ℕ) (k : ℕ) → ((i : ℕ) → i < k → f i + g i ≡ h i) → sum_below f k + sum_below g k ≡ sum_below h k
sum_added f g h zero e = refl
sum_added f g h (suc k) e = omega (arith, e k (omega arith), sum_added f g h k (λ i lt. e i (omega arith)))

pub one_at_most : (v : Option ℕ) → one_if_some v ≤ 1
one_at_most None = omega arith
one_at_most (Some t) = omega arith

pub kept_at_most : (A : Records) (n k : ℕ) → kept_below A n k ≤ k
kept_at_most A n k = omega (arith, sum_below_at_most (λ s. one_if_some (held_by (A n s))) 1 k (λ s lt. one_at_most (held_by (A n s))))

pub kept_same : (A B : Records) (n k : ℕ) → ((s : ℕ) → s < k → B n s ≡ A n s) → kept_below B n k ≡ kept_below A n k
kept_same A B n k same = sum_below_same (λ s. one_if_some (held_by (B n s))) (λ s. one_if_some (held_by (A n s))) k (λ s lt. ap (λ (z : SignalRecord). one_if_some (held_by z)) (same s lt))

cond_at_most : (t : Bool) (a top : ℕ) → a ≤ top → cond t a 0 ≤ top
cond_at_most true a top h = h
cond_at_most false a top h = omega arith

pub carried_at_most : (arcs : List Arc) (A : Records) (test : ℕ → Bool) (k : ℕ) → carried_where arcs A test k ≤ step_count * k
carried_at_most arcs A test k =
    sum_below_at_most (λ i. cond (test (tail_of arcs i)) (kept_below A (tail_of arcs i) step_count) 0) step_count k (λ i lt. cond_at_most (test (tail_of arcs i)) _ step_count (kept_at_most A (tail_of arcs i) step_count))
