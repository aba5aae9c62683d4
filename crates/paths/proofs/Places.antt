-- The place of a net in a list, and in the list with one more at its end. Assumes nothing.
use Rattle.std.proofs.Common.{◌≡◌, ℕ, suc, ◌<◌, ◌≤◌, Bool, true, false, cond, eqb, List, [], ◌∷◌, ◌++◌, length, get_or, refl, ap, ◌∙◌, inl, inr, arith, eq-eqb, ne_eqb, eqb-true}
use Rattle.std.proofs.lemmas.List.{length_push, get_or_append_left, get_or_push}
use Rattle.std.proofs.lemmas.Bool.{cases_lt}
use Rattle.paths.specs.Orders.{place_of, Placed, Unplaced, Numbers, Once}

pub place_within : (xs : List ℕ) (n : ℕ) → place_of xs n ≤ length xs
place_within [] n = omega arith
place_within (x ∷ xs) n = go (eqb x n) (place_within xs n)
  where
    go : (b : Bool) → place_of xs n ≤ length xs → cond b 0 (suc (place_of xs n)) ≤ suc (length xs)
    go true h = omega arith
    go false h = omega arith

-- the net stands at its place
pub at_place : (xs : List ℕ) (n : ℕ) → Placed xs n → get_or xs (place_of xs n) 0 ≡ n
at_place [] n h = absurd (omega arith)
at_place (x ∷ xs) n h = go (at_place xs n) (eqb x n) refl h
  where
    go : (Placed xs n → get_or xs (place_of xs n) 0 ≡ n) → (b : Bool) → eqb x n ≡ b → cond b 0 (suc (place_of xs n)) < suc (length xs) → get_or (x ∷ xs) (cond b 0 (suc (place_of xs n))) 0 ≡ n
    go more true e h = eqb-true x n e
    go more false e h = more (omega arith)

-- a net that stands in the list keeps its place
pub place_kept : (xs : List ℕ) (new n : ℕ) → Placed xs n → place_of (xs ++ new ∷ []) n ≡ place_of xs n
place_kept [] new n h = absurd (omega arith)
place_kept (x ∷ xs) new n h = go (place_kept xs new n) (eqb x n) h
  where
    go : (Placed xs n → place_of (xs ++ new ∷ []) n ≡ place_of xs n) → (b : Bool) → cond b 0 (suc (place_of xs n)) < suc (length xs) → cond b 0 (suc (place_of (xs ++ new ∷ []) n)) ≡ cond b 0 (suc (place_of xs n))
    go more true h = refl
    go more false h = ap suc (more (omega arith))

-- the new one comes to stand at the end
pub place_new : (xs : List ℕ) (new : ℕ) → Unplaced xs new → place_of (xs ++ new ∷ []) new ≡ length xs
place_new [] new h = ap (λ (b : Bool). cond b 0 1) (eq-eqb new new refl)
place_new (x ∷ xs) new h = go (place_new xs new) (eqb x new) h
  where
    go : (Unplaced xs new → place_of (xs ++ new ∷ []) new ≡ length xs) → (b : Bool) → suc (length xs) ≤ cond b 0 (suc (place_of xs new)) → cond b 0 (suc (place_of (xs ++ new ∷ []) new)) ≡ suc (length xs)
    go more true h = absurd (omega arith)
    go more false h = ap suc (more (omega arith))

-- any other net is left as it was
pub place_other : (xs : List ℕ) (new n : ℕ) → (new ≡ n → ⊥) → Unplaced xs n → place_of (xs ++ new ∷ []) n ≡ suc (length xs)
place_other [] new n ne h = ap (λ (b : Bool). cond b 0 1) (ne_eqb new n ne)
place_other (x ∷ xs) new n ne h = go (place_other xs new n ne) (eqb x n) h
  where
    go : (Unplaced xs n → place_of (xs ++ new ∷ []) n ≡ suc (length xs)) → (b : Bool) → suc (length xs) ≤ cond b 0 (suc (place_of xs n)) → cond b 0 (suc (place_of (xs ++ new ∷ []) n)) ≡ suc (suc (length xs))
    go more true h = absurd (omega arith)
    go more false h = ap suc (more (omega arith))

-- each net still stands once
pub once_push : (xs : List ℕ) (new : ℕ) → Once xs → Unplaced xs new → Once (xs ++ new ∷ [])
once_push xs new once left k lt =
    let long = length_push xs new in
    elim (cases_lt k (length xs)) [
      | inl old ↦
          let e = once k old in
          ap (place_of (xs ++ new ∷ [])) (get_or_append_left xs (new ∷ []) 0 k old) ∙ place_kept xs new (get_or xs k 0) (omega arith) ∙ e
      | inr end ↦
          let e : length xs ≡ k = omega arith in
          ap (place_of (xs ++ new ∷ [])) (get_or_push xs new 0 k e) ∙ place_new xs new left ∙ e
    ]

pub numbers_push : (nets : ℕ) (xs : List ℕ) (new : ℕ) → new < nets → Numbers nets xs → Numbers nets (xs ++ new ∷ [])
numbers_push nets xs new h numbers k lt =
    let long = length_push xs new in
    elim (cases_lt k (length xs)) [
      | inl old ↦ let e = get_or_append_left xs (new ∷ []) 0 k old in let n = numbers k old in omega arith
      | inr end ↦ let e = get_or_push xs new 0 k (omega arith) in omega arith
    ]

-- a number that is no net does not stand in the list
pub none_past : (nets : ℕ) (xs : List ℕ) (n : ℕ) → Numbers nets xs → nets ≤ n → Unplaced xs n
none_past nets xs n numbers ge = elim (cases_lt (place_of xs n) (length xs)) [
  | inr left ↦ left
  | inl placed ↦ let e = at_place xs n placed in let h = numbers (place_of xs n) placed in absurd (omega arith)
]
