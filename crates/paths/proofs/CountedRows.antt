-- The carried count is counted row by row, and there is one. Assumes nothing.
use Rattle.std.proofs.Common.{◌≡◌, ℕ, zero, suc, ◌+◌, ◌*◌, ◌<◌, ◌≤◌, ◌⊎◌, List, [], ◌∷◌, length, Some, None, Option, sym, refl, ap, ◌∙◌, subst, inl, inr, not-suc-le-zero, mul-suc, arith}
use native.Mathlib.Decide.{ℕ_discrete}
use Rattle.units.specs.Senses.{Order}
use Rattle.units.specs.Steps.{step_count}
use Rattle.models.specs.Meaning.{Meaning}
use Rattle.paths.specs.Blocks.{Block, tail_of}
use Rattle.paths.specs.Signals.{Signal, signal, Covers}
use Rattle.paths.specs.CarriedCounts.{In, Distinct, Number, sum_below, CarriedCount}
use Rattle.paths.specs.ArcByArc.{SignalTable, PrunedByNets, Timeable, one_if_some, held_in, CountedByRows}
use Rattle.paths.proofs.Options.{none_is_not_some, some_injective}
use Rattle.paths.proofs.Covering.{covers_prunes}
use Rattle.paths.proofs.Pruning.{held_fits, pruning_loses_nothing}

pub sum_below_same : (f g : ℕ → ℕ) (k : ℕ) → ((i : ℕ) → i < k → f i ≡ g i) → sum_below f k ≡ sum_below g k
sum_below_same f g zero same = refl
sum_below_same f g (suc k) same =
    let here = same k (omega arith) in
    let below = sum_below_same f g k (λ i h. same i (omega arith)) in
    omega arith

pub sum_below_at_most : (f : ℕ → ℕ) (top k : ℕ) → ((i : ℕ) → i < k → f i ≤ top) → sum_below f k ≤ top * k
sum_below_at_most f top zero most = omega arith
sum_below_at_most f top (suc k) most =
    let here = most k (omega arith) in
    let below = sum_below_at_most f top k (λ i h. most i (omega arith)) in
    let product = mul-suc top k in
    omega arith

-- without this one of them
without : (ys : List Signal) (y : Signal) → In y ys → (zs : List Signal) × (length ys ≡ suc (length zs)) × ((z : Signal) → In z ys → (z ≡ y) ⊎ In z zs)
without [] y i = absurd i
without (x ∷ xs) y (inl e) = (xs, refl, λ z. elim [ inl q ↦ inl (q ∙ sym e) | inr j ↦ inr j ])
without (x ∷ xs) y (inr i) =
    let (zs, long, rest) = without xs y i in (
      x ∷ zs,
      ap suc long,
      λ z. elim [ inl q ↦ inr (inl q) | inr j ↦ elim (rest z j) [ inl q ↦ inl q | inr k ↦ inr (inr k) ] ],
    )

-- a list without repeats is no longer than one that has its members
no_longer : (xs ys : List Signal) → Distinct xs → ((z : Signal) → In z xs → In z ys) → length xs ≤ length ys
no_longer [] ys distinct has = omega arith
no_longer (x ∷ xs) ys distinct has =
    let (zs, long, rest) = without ys x (has x (inl refl)) in
    let shorter = no_longer xs zs distinct.1 (λ z i. elim (rest z (has z (inr i))) [
      | inl q ↦ absurd (distinct.0 (subst (λ (w : Signal). In w xs) q i))
      | inr j ↦ j
    ]) in
    omega arith

pub number_unique : (Is : Signal → Type 0) (x y : ℕ) → Number Is x → Number Is y → x ≡ y
number_unique Is x y nx ny =
    let (xs, xs-distinct, xs-are, xs-long) = nx in
    let (ys, ys-distinct, ys-are, ys-long) = ny in
    let le = no_longer xs ys xs-distinct (λ z i. (ys-are z).0 ((xs-are z).1 i)) in
    let ge = no_longer ys xs ys-distinct (λ z i. (xs-are z).0 ((ys-are z).1 i)) in
    omega arith

pub carried_count_unique : (b : Block) (m : Meaning) (o : Order) (x y : ℕ) → CarriedCount b m o x → CarriedCount b m o y → x ≡ y
carried_count_unique b m o x y cx cy =
    let (f, f-counts, ex) = cx in
    let (g, g-counts, ey) = cy in
    ex ∙ sum_below_same f g (length b.arcs) (λ i h. number_unique _ (f i) (g i) (f-counts i h) (g-counts i h)) ∙ sym ey

-- a row's signal of the step s, if there is one, before others
abbrev entry : Option ℕ → ℕ → List Signal → List Signal
entry None s ys = ys
entry (Some t) s ys = signal t s ∷ ys

module _ (row : ℕ → Option ℕ) where
  -- the row's signals below a step
  abbrev listed : ℕ → List Signal
  listed zero = []
  listed (suc k) = entry (row k) k (listed k)

  listed_held : (k : ℕ) (y : Signal) → In y (listed k) → (row y.step ≡ Some y.time) × (y.step < k)
  listed_held zero y i = absurd i
  listed_held (suc k) y i = go (row k) refl i (listed_held k y)
    where
      go : (v : Option ℕ) → row k ≡ v → In y (entry v k (listed k)) → (In y (listed k) → (row y.step ≡ Some y.time) × (y.step < k)) → (row y.step ≡ Some y.time) × (y.step < suc k)
      go None e j below = let h = below j in (h.0, omega arith)
      go (Some t) e (inr j) below = let h = below j in (h.0, omega arith)
      go (Some t) e (inl q) below =
          let s : y.step ≡ k = ap (λ (z : Signal). z.step) q in
          (ap row s ∙ e ∙ ap Some (sym (ap (λ (z : Signal). z.time) q)), omega arith)

  held_listed : (k : ℕ) (y : Signal) → row y.step ≡ Some y.time → y.step < k → In y (listed k)
  held_listed zero y e h = absurd (not-suc-le-zero h)
  held_listed (suc k) y e h = go (row k) refl (held_listed k y e)
    where
      go : (v : Option ℕ) → row k ≡ v → (y.step < k → In y (listed k)) → In y (entry v k (listed k))
      go None q below =
          elim (ℕ_discrete y.step k) [ yes p ↦ absurd (none_is_not_some y.time (sym q ∙ ap row (sym p) ∙ e)) | no p ↦ below (omega arith) ]
      go (Some t) q below =
          elim (ℕ_discrete y.step k) [
            | yes p ↦ inl (let et : y.time ≡ t = some_injective y.time t (sym e ∙ ap row p ∙ q) in λ i. signal (et i) (p i))
            | no p ↦ inr (below (omega arith))
          ]

  listed_distinct : (k : ℕ) → Distinct (listed k)
  listed_distinct zero = tt
  listed_distinct (suc k) = go (row k) (listed_distinct k)
    where
      go : (v : Option ℕ) → Distinct (listed k) → Distinct (entry v k (listed k))
      go None d = d
      go (Some t) d = (λ i. (let h = listed_held k (signal t k) i in omega arith), d)

  listed_long : (k : ℕ) → length (listed k) ≡ sum_below (λ s. one_if_some (row s)) k
  listed_long zero = refl
  listed_long (suc k) = go (row k) (listed_long k)
    where
      go : (v : Option ℕ) → length (listed k) ≡ sum_below (λ s. one_if_some (row s)) k → length (entry v k (listed k)) ≡ one_if_some v + sum_below (λ s. one_if_some (row s)) k
      go None e = omega arith
      go (Some t) e = omega arith

  -- a row holds one signal for each step at most
  pub held_in_at_most : held_in row ≤ step_count
  held_in_at_most = let most = sum_below_at_most (λ s. one_if_some (row s)) 1 step_count (λ s h. at_most_one (row s)) in omega arith
    where
      at_most_one : (v : Option ℕ) → one_if_some v ≤ 1
      at_most_one None = omega arith
      at_most_one (Some t) = omega arith

-- so the sum over the arcs is no more than the steps for each
pub rows_at_most : (b : Block) (held : SignalTable) → sum_below (λ i. held_in (held (tail_of b.arcs i))) (length b.arcs) ≤ step_count * length b.arcs
rows_at_most b held =
    sum_below_at_most (λ i. held_in (held (tail_of b.arcs i))) step_count (length b.arcs) (λ i h. held_in_at_most (held (tail_of b.arcs i)))

module _ (b : Block) (m : Meaning) (o : Order) (order : List ℕ) (held : SignalTable) (T : Timeable b m o order) (P : PrunedByNets b m o (Covers o) held) where
  pub counted_by_rows : CountedByRows b m o held
  counted_by_rows = (
    (λ i. held_in (held (tail_of b.arcs i))),
    (λ i is-arc. (let n = tail_of b.arcs i in (
      listed (held n) step_count,
      listed_distinct (held n) step_count,
      (λ y. (
        (λ kept. (let e = (pruning_loses_nothing b m o order held T P n y.step y.time).1 kept in
            held_listed (held n) step_count y e (let h = held_fits b m o order held T (Covers o) (covers_prunes b m o T.model T.sense) P n y.step y.time e in omega arith))),
        (λ j. (pruning_loses_nothing b m o order held T P n y.step y.time).0 (listed_held (held n) step_count y j).0),
      )),
      listed_long (held n) step_count,
    ))),
    refl,
  )

  -- the carried count is no more than the steps for each arc
  pub carried_count_at_most : (c : ℕ) → CarriedCount b m o c → c ≤ step_count * length b.arcs
  carried_count_at_most c counted =
      let e = carried_count_unique b m o c _ counted counted_by_rows in
      let most = rows_at_most b held in
      omega arith
