-- The least of the figures that the first places hold, and of those that the items of a list give. Assumes nothing.
use Rattle.std.proofs.Common.{◌≡◌, ℕ, zero, suc, ◌+◌, ◌<◌, Bool, true, false, cond, ◌⊎◌, List, [], ◌∷◌, length, get_or, ℤ, ◌≤ℤ◌, Some, None, Option, sym, refl, ap, ◌∙◌, subst, inl, inr, arith}
use native.Mathlib.Decide.{ℕ_discrete}
use lib.Signed.{lt_z}
use Rattle.std.specs.declared.cmp.Ordering.TheVariants.{Less, Equal, Greater}
use Rattle.std.specs.Ordering.{int_cmp, min_by_ordering}
use Rattle.std.specs.List.{reduce, filter_map, cons_option}
use Rattle.std.proofs.lemmas.Int.{ints}
use Rattle.paths.specs.Slacks.{Least}
use Rattle.paths.proofs.Firsts.{OrOneMore, first_keeps, first_takes, ≤ℤ-transitive, least_moved}
use Rattle.std.proofs.lemmas.Option.{none-some, same_Some}

-- the least of the same figures
pub least_same : (Is Also : ℤ → Type 0) → ((z : ℤ) → Is z → Also z) → ((z : ℤ) → Also z → Is z) → (x : Option ℤ) → Least Is x → Least Also x
least_same Is Also into back x least = least_moved Is Also into (λ z q. (z, back z q, same z)) x least
  where
    same : (z : ℤ) → z ≤ℤ z
    same z = omega (arith, ints)

-- the lesser of two, as `min` picks it
abbrev pub lesser : ℤ → ℤ → ℤ
lesser a z = min_by_ordering (int_cmp a z) a z

-- of two figures, where there are any
abbrev pub lesser_of : Option ℤ → Option ℤ → Option ℤ
lesser_of None z = z
lesser_of (Some a) None = Some a
lesser_of (Some a) (Some z) = Some (lesser a z)

-- the lesser of the least and of one more figure is the least of all of them
pub least_with : (Is : ℤ → Type 0) (x : Option ℤ) (z : ℤ) → Least Is x → Least (OrOneMore Is z) (lesser_of x (Some z))
least_with Is None z least = first_takes ◌≤ℤ◌ Is z ≤ℤ-transitive (omega (arith, ints)) None least (λ a e. absurd (none-some a e))
least_with Is (Some a) z least = go (lt_z a z) refl (lt_z z a) refl
  where
    go : (p : Bool) → lt_z a z ≡ p → (q : Bool) → lt_z z a ≡ q → Least (OrOneMore Is z) (Some (min_by_ordering (cond p Less (cond q Greater Equal)) a z))
    go true ep q eq = first_keeps ◌≤ℤ◌ Is a z least (grind (arith, ints))
    go false ep false eq = first_keeps ◌≤ℤ◌ Is a z least (grind (arith, ints))
    go false ep true eq = let h : z ≤ℤ a = grind (arith, ints) in first_takes ◌≤ℤ◌ Is z ≤ℤ-transitive (omega (arith, ints)) (Some a) least (λ c e. subst (λ (w : ℤ). z ≤ℤ w) (same_Some a c e) h)

-- one of the first places holds the figure
abbrev pub FigureBelow : (ℕ → Option ℤ) → ℕ → ℤ → Type 0
FigureBelow figures k z = (i : ℕ) × (i < k) × (figures i ≡ Some z)

module _ (figures : ℕ → Option ℤ) (k : ℕ) where
  with_figure : (x : Option ℤ) (y : Option ℤ) → y ≡ figures k → Least (FigureBelow figures k) x → Least (FigureBelow figures (k + 1)) (lesser_of x y)
  with_figure x (Some z) e least = least_same (OrOneMore (FigureBelow figures k) z) (FigureBelow figures (k + 1)) into back (lesser_of x (Some z)) (least_with (FigureBelow figures k) x z least)
    where
      into : (w : ℤ) → OrOneMore (FigureBelow figures k) z w → FigureBelow figures (k + 1) w
      into w (inl (i, h, q)) = (i, omega arith, q)
      into w (inr q) = (k, omega arith, sym e ∙ ap Some (sym q))

      back : (w : ℤ) → FigureBelow figures (k + 1) w → OrOneMore (FigureBelow figures k) z w
      back w (i, h, q) = elim (ℕ_discrete i k) [
        | yes p ↦ inr (same_Some w z (sym q ∙ ap figures p ∙ sym e))
        | no p ↦ inl (i, omega arith, q)
      ]
  with_figure x None e least = subst (Least (FigureBelow figures (k + 1))) (none_added x) (least_same (FigureBelow figures k) (FigureBelow figures (k + 1)) into back x least)
    where
      none_added : (v : Option ℤ) → v ≡ lesser_of v None
      none_added None = refl
      none_added (Some a) = refl

      into : (w : ℤ) → FigureBelow figures k w → FigureBelow figures (k + 1) w
      into w (i, h, q) = (i, omega arith, q)

      back : (w : ℤ) → FigureBelow figures (k + 1) w → FigureBelow figures k w
      back w (i, h, q) = elim (ℕ_discrete i k) [
        | yes p ↦ absurd (none-some w (e ∙ ap figures (sym p) ∙ q))
        | no p ↦ (i, omega arith, q)
      ]

  -- one place more
  pub least_more : (x y r : Option ℤ) → Least (FigureBelow figures k) x → y ≡ figures k → r ≡ lesser_of x y → Least (FigureBelow figures (k + 1)) r
  least_more x y r least e l = subst (Least (FigureBelow figures (k + 1))) (sym l) (with_figure x y e least)

-- all places
pub least_all : (figures : ℕ → Option ℤ) (k all : ℕ) (x : Option ℤ) → k ≡ all → Least (FigureBelow figures k) x → Least (FigureBelow figures all) x
least_all figures k all x e least = subst (λ (v : ℕ). Least (FigureBelow figures v) x) e least

one_more : (Is Also : ℤ → Type 0) (y : ℤ) (ys : List ℤ) (x : Option ℤ) → Least Is x → ((v : Option ℤ) → Least (OrOneMore Is y) v → Least Also (reduce lesser (cons_option v ys))) → Least Also (reduce lesser (cons_option x (y ∷ ys)))
one_more Is Also y ys None least on = on (Some y) (least_with Is None y least)
one_more Is Also y ys (Some a) least on = on (Some (lesser a y)) (least_with Is (Some a) y least)

module _ {X : Type 0} (h : X → Option ℤ) (d : X) where
  -- an item of the list gives the figure
  abbrev pub GivenBy : List X → ℤ → Type 0
  GivenBy xs z = (i : ℕ) × (i < length xs) × (h (get_or xs i d) ≡ Some z)

  -- some figures, and those that the items give
  abbrev OrGiven : (ℤ → Type 0) → List X → ℤ → Type 0
  OrGiven Is xs z = Is z ⊎ GivenBy xs z

  none_given : (Is : ℤ → Type 0) (x : X) (xs : List X) → h x ≡ None → (z : ℤ) → (OrGiven Is xs z → OrGiven Is (x ∷ xs) z) × (OrGiven Is (x ∷ xs) z → OrGiven Is xs z)
  none_given Is x xs e z = (elim [ inl p ↦ inl p | inr (i, lt, q) ↦ inr (suc i, omega arith, q) ], back)
    where
      back : OrGiven Is (x ∷ xs) z → OrGiven Is xs z
      back (inl p) = inl p
      back (inr (zero, lt, q)) = absurd (none-some z (sym e ∙ q))
      back (inr (suc i, lt, q)) = inr (i, omega arith, q)

  one_given : (Is : ℤ → Type 0) (y : ℤ) (x : X) (xs : List X) → h x ≡ Some y → (z : ℤ) → (OrGiven (OrOneMore Is y) xs z → OrGiven Is (x ∷ xs) z) × (OrGiven Is (x ∷ xs) z → OrGiven (OrOneMore Is y) xs z)
  one_given Is y x xs e z = (into, back)
    where
      into : OrGiven (OrOneMore Is y) xs z → OrGiven Is (x ∷ xs) z
      into (inl (inl p)) = inl p
      into (inl (inr q)) = inr (0, omega arith, e ∙ ap Some (sym q))
      into (inr (i, lt, q)) = inr (suc i, omega arith, q)

      back : OrGiven Is (x ∷ xs) z → OrGiven (OrOneMore Is y) xs z
      back (inl p) = inl (inl p)
      back (inr (zero, lt, q)) = inl (inr (same_Some z y (sym q ∙ e)))
      back (inr (suc i, lt, q)) = inr (i, omega arith, q)

  -- the least of some figures goes along with the list
  least_from : (Is : ℤ → Type 0) (x : Option ℤ) (xs : List X) → Least Is x → Least (OrGiven Is xs) (reduce lesser (cons_option x (filter_map h xs)))
  least_from Is None [] least = λ z. elim [ inl p ↦ least z p | inr (i, lt, q) ↦ omega arith ]
  least_from Is (Some a) [] least = (inl least.0, λ z. elim [ inl p ↦ least.1 z p | inr (i, lt, q) ↦ absurd (omega arith) ])
  least_from Is x (item ∷ xs) least = go (h item) refl (λ Also y l. least_from Also y xs l)
    where
      go : (y : Option ℤ) → h item ≡ y → ((Also : ℤ → Type 0) (v : Option ℤ) → Least Also v → Least (OrGiven Also xs) (reduce lesser (cons_option v (filter_map h xs)))) → Least (OrGiven Is (item ∷ xs)) (reduce lesser (cons_option x (cons_option y (filter_map h xs))))
      go None e on = least_same (OrGiven Is xs) (OrGiven Is (item ∷ xs)) (λ z. (none_given Is item xs e z).0) (λ z. (none_given Is item xs e z).1) (reduce lesser (cons_option x (filter_map h xs))) (on Is x least)
      go (Some y) e on = one_more Is (OrGiven Is (item ∷ xs)) y (filter_map h xs) x least (λ v l.
          least_same (OrGiven (OrOneMore Is y) xs) (OrGiven Is (item ∷ xs)) (λ z. (one_given Is y item xs e z).0) (λ z. (one_given Is y item xs e z).1) (reduce lesser (cons_option v (filter_map h xs))) (on (OrOneMore Is y) v l))

  -- the least figure that the items give
  pub least_given : (xs : List X) → Least (GivenBy xs) (reduce lesser (filter_map h xs))
  least_given xs = least_same (OrGiven (λ z. ⊥) xs) (GivenBy xs) (λ z. elim [ inl p ↦ absurd p | inr g ↦ g ]) (λ z g. inr g) (reduce lesser (filter_map h xs)) (least_from (λ z. ⊥) None xs (λ z p. p))

-- the least of so many figures, where the items give them in turn
pub least_figure : {X : Type 0} (h : X → Option ℤ) (d : X) (xs : List X) (figures : ℕ → Option ℤ) (k : ℕ) (r : Option ℤ) → length xs ≡ k → ((n : ℕ) → n < k → h (get_or xs n d) ≡ figures n) → r ≡ reduce lesser (filter_map h xs) → Least (λ z. (n : ℕ) × (n < k) × (figures n ≡ Some z)) r
least_figure h d xs figures k r long given e =
    subst (Least (λ z. (n : ℕ) × (n < k) × (figures n ≡ Some z))) (sym e)
    (least_same (GivenBy h d xs) (λ z. (n : ℕ) × (n < k) × (figures n ≡ Some z)) into back (reduce lesser (filter_map h xs)) (least_given h d xs))
  where
    into : (z : ℤ) → GivenBy h d xs z → (n : ℕ) × (n < k) × (figures n ≡ Some z)
    into z (n, lt, q) = let within : n < k = omega arith in (n, within, sym (given n within) ∙ q)

    back : (z : ℤ) → (n : ℕ) × (n < k) × (figures n ≡ Some z) → GivenBy h d xs z
    back z (n, lt, q) = (n, omega arith, given n lt ∙ q)
