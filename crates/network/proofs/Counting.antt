-- How many numbers pass a test, when one of them no longer does. Assumes nothing.
use Rattle.std.proofs.Common.{◌≡◌, ℕ, zero, suc, ◌+◌, ◌<◌, ◌≤◌, Bool, true, false, ◌≢◌, refl, ap, ◌∙◌, inl, inr, arith}
use native.Mathlib.Decide.{ℕ_discrete}
use Rattle.std.proofs.lemmas.Bool.{cases_Bool}
use Rattle.network.specs.Sorting.{one_if, count_below}

pub count_within : (test : ℕ → Bool) (k : ℕ) → count_below test k ≤ k
count_within test zero = omega arith
count_within test (suc k) = go (test k) (count_within test k)
  where
    go : (b : Bool) → count_below test k ≤ k → one_if b + count_below test k ≤ suc k
    go true h = omega arith
    go false h = omega arith

pub count_same : (s t : ℕ → Bool) (k : ℕ) → ((j : ℕ) → j < k → s j ≡ t j) → count_below s k ≡ count_below t k
count_same s t zero same = refl
count_same s t (suc k) same =
    let here : one_if (s k) ≡ one_if (t k) = ap one_if (same k (omega arith)) in
    let below = count_same s t k (λ j h. same j (omega arith)) in
    omega arith

-- one number passes the first test and not the second
pub count_less : (s t : ℕ → Bool) (i k : ℕ) → i < k → s i ≡ true → t i ≡ false → ((j : ℕ) → j < k → j ≢ i → s j ≡ t j) → count_below s k ≡ 1 + count_below t k
count_less s t i zero lt yes-s no-t same = absurd (omega arith)
count_less s t i (suc k) lt yes-s no-t same = elim (ℕ_discrete k i) [
  | yes q ↦
      let before : one_if (s k) ≡ 1 = ap one_if (ap s q ∙ yes-s) in
      let after : one_if (t k) ≡ 0 = ap one_if (ap t q ∙ no-t) in
      let below = count_same s t k (λ j h. same j (omega arith) (λ e. absurd (omega arith))) in
      omega arith
  | no q ↦
      let here : one_if (s k) ≡ one_if (t k) = ap one_if (same k (omega arith) q) in
      let below = count_less s t i k (omega arith) yes-s no-t (λ j h. same j (omega arith)) in
      omega arith
]

pub count_none : (test : ℕ → Bool) (k : ℕ) → ((j : ℕ) → j < k → test j ≡ false) → count_below test k ≡ 0
count_none test zero none = refl
count_none test (suc k) none =
    let here : one_if (test k) ≡ 0 = ap one_if (none k (omega arith)) in
    let below = count_none test k (λ j h. none j (omega arith)) in
    omega arith

pub count_all : (test : ℕ → Bool) (k : ℕ) → ((j : ℕ) → j < k → test j ≡ true) → count_below test k ≡ k
count_all test zero all = refl
count_all test (suc k) all =
    let here : one_if (test k) ≡ 1 = ap one_if (all k (omega arith)) in
    let below = count_all test k (λ j h. all j (omega arith)) in
    omega arith

-- where none is counted, none passes
pub none_counted : (test : ℕ → Bool) (k : ℕ) → count_below test k ≡ 0 → (j : ℕ) → j < k → test j ≡ false
none_counted test zero none j lt = absurd (omega arith)
none_counted test (suc k) none j lt = elim (cases_Bool (test k)) [
  | inl passes ↦ let one : one_if (test k) ≡ 1 = ap one_if passes in absurd (omega arith)
  | inr fails ↦ elim (ℕ_discrete j k) [
    | yes q ↦ ap test q ∙ fails
    | no q ↦ none_counted test k (omega arith) j (omega arith)
  ]
]
