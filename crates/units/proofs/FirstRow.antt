-- The first row that holds, in two tables one after the other, and among rows counted by number. Assumes nothing.
use Rattle.std.proofs.Common.{◌≡◌, ℕ, zero, suc, ◌+◌, ◌<◌, ◌≤◌, Bool, true, false, cond, List, [], ◌∷◌, ◌++◌, map, Some, None, Option, refl, ap, ◌∙◌, inl, inr, eq-or-lt_of_le, arith}
use Rattle.std.specs.List.{range_with_len}
use Rattle.units.specs.declared.refusals.Refusal.{Refusal}
use Rattle.units.specs.Refusals.{Row, first}

past_one : (b : Bool) (x : Refusal) (p q s : Option Refusal) → cond b (Some x) p ≡ None → (p ≡ None → q ≡ s) → cond b (Some x) q ≡ s
past_one true x p q s h k = let z : ◌≡◌ {A = ℕ} 0 1 = cc in absurd (omega arith)
past_one false x p q s h k = k h

-- past a table of which no row holds
pub first_past : (xs ys : List Row) → first xs ≡ None → first (xs ++ ys) ≡ first ys
first_past [] ys h = refl
first_past (r ∷ rs) ys h = past_one r.holds r.refusal (first rs) (first (rs ++ ys)) (first ys) h (first_past rs ys)

found_one : (b : Bool) (x y : Refusal) (p q : Option Refusal) → cond b (Some x) p ≡ Some y → (p ≡ Some y → q ≡ Some y) → cond b (Some x) q ≡ Some y
found_one true x y p q h k = h
found_one false x y p q h k = k h

-- found in the first of two tables
pub first_found : (xs ys : List Row) (y : Refusal) → first xs ≡ Some y → first (xs ++ ys) ≡ Some y
first_found [] ys y h = let z : ◌≡◌ {A = ℕ} 0 1 = cc in absurd (omega arith)
first_found (r ∷ rs) ys y h = found_one r.holds r.refusal y (first rs) (first (rs ++ ys)) h (first_found rs ys y)

-- one row for each number
abbrev pub numbered : (ℕ → Bool) → (ℕ → Refusal) → ℕ → ℕ → List Row
numbered test refusal a n = map (λ i. record { holds = test i; refusal = refusal i }) (range_with_len a n)

pub none_holds : (test : ℕ → Bool) (refusal : ℕ → Refusal) (a n : ℕ) → ((i : ℕ) → a ≤ i → i < a + n → test i ≡ false) → first (numbered test refusal a n) ≡ None
none_holds test refusal a zero h = refl
none_holds test refusal a (suc n) h =
    let e : test a ≡ false = h a (omega arith) (omega arith) in
    let rest = none_holds test refusal (a + 1) n (λ i l u. h i (omega arith) (omega arith)) in
    rw e rest

pub first_holds : (test : ℕ → Bool) (refusal : ℕ → Refusal) (a n i : ℕ) → a ≤ i → i < a + n → test i ≡ true → ((j : ℕ) → a ≤ j → j < i → test j ≡ false) → first (numbered test refusal a n) ≡ Some (refusal i)
first_holds test refusal a zero i l u e h = absurd (omega arith)
first_holds test refusal a (suc n) i l u e h = elim (eq-or-lt_of_le l) [
  | inl same ↦ let t : test a ≡ true = ap test same ∙ e in rw t (ap (λ k. Some (refusal k)) same)
  | inr less ↦
      let f : test a ≡ false = h a (omega arith) less in
      let rest = first_holds test refusal (a + 1) n i (omega arith) (omega arith) e (λ j k m. h j (omega arith) m) in
      rw f rest
]
