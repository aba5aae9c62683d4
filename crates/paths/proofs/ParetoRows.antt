-- One more signal offered to a pruned row: a signal of the row is over it, or it enters and drives out those that it is over. Assumes nothing.
use Rattle.std.proofs.Common.{◌≡◌, ℕ, ◌⊎◌, ◌↔◌, List, [], ◌∷◌, Some, None, Option, sym, refl, ap, ◌∙◌, subst, inl, inr}
use native.Mathlib.Decide.{ℕ_discrete}
use Rattle.paths.specs.Signals.{Signal, signal}
use Rattle.paths.specs.CarriedCounts.{In}
use Rattle.paths.specs.ArcByArc.{ParetoRow}
use Rattle.paths.proofs.Options.{none_is_not_some, some_injective}

-- offered, or the one more
abbrev pub WithOneMore : (Signal → Type 0) → Signal → Signal → Type 0
WithOneMore Offered y z = Offered z ⊎ (z ≡ y)

-- where nothing is offered the row is empty
pub empty_row : (Over : Signal → Signal → Type 0) (Offered : Signal → Type 0) → ((z : Signal) → ¬ Offered z) → ParetoRow Over Offered (λ s. None)
empty_row Over Offered nothing =
    record {
      offered = λ s t e. absurd (none_is_not_some t e);
      covered = λ y p. absurd (nothing y p);
      apart = λ s t s' t' e f c. absurd (none_is_not_some t e);
    }

-- a row depends on no more than what is offered
pub row_of_same : (Over : Signal → Signal → Type 0) (Offered Offered' : Signal → Type 0) (row : ℕ → Option ℕ) → ((z : Signal) → Offered z ↔ Offered' z) → ParetoRow Over Offered row → ParetoRow Over Offered' row
row_of_same Over Offered Offered' row same B =
    record {
      offered = λ s t e. (same (signal t s)).0 (B.offered s t e);
      covered = λ y p. B.covered y ((same y).1 p);
      apart = B.apart;
    }

module _ (Over : Signal → Signal → Type 0) (transitive : (x y z : Signal) → Over x y → Over y z → Over x z) (Offered : Signal → Type 0) (row : ℕ → Option ℕ) (B : ParetoRow Over Offered row) (y : Signal) where
  -- a signal of the row is over the new one
  pub row_stays : (s t : ℕ) → row s ≡ Some t → Over (signal t s) y → ParetoRow Over (WithOneMore Offered y) row
  row_stays s t e c = record { offered = λ u v f. inl (B.offered u v f); covered = covered; apart = B.apart }
    where
      covered : (z : Signal) → WithOneMore Offered y z → (u : ℕ) × (v : ℕ) × (row u ≡ Some v) × Over (signal v u) z
      covered z (inl p) = B.covered z p
      covered z (inr q) = (s, t, e, subst (Over (signal t s)) (sym q) c)

  -- the row after the new one entered it
  pub record Entered (row' : ℕ → Option ℕ) : Type 0 where
    pub entered : row' y.step ≡ Some y.time
    pub stays : (s t : ℕ) → ¬ (s ≡ y.step) → row s ≡ Some t → ¬ Over y (signal t s) → row' s ≡ Some t
    pub only : (s t : ℕ) → ¬ (s ≡ y.step) → row' s ≡ Some t → (row s ≡ Some t) × ¬ Over y (signal t s)

  -- no signal of the row is over the new one
  pub row_entered : (row' : ℕ → Option ℕ) → ((x z : Signal) → Dec (Over x z)) → ((t t' s : ℕ) → Over (signal t s) (signal t' s) ⊎ Over (signal t' s) (signal t s)) → ((s t : ℕ) → row s ≡ Some t → ¬ Over (signal t s) y) → Entered row' → ParetoRow Over (WithOneMore Offered y) row'
  row_entered row' decide total new E = record { offered = offered; covered = covered; apart = apart }
    where
      at_its_step : (s t : ℕ) → s ≡ y.step → row' s ≡ Some t → signal t s ≡ y
      at_its_step s t q e =
          let et : t ≡ y.time = some_injective t y.time (sym e ∙ ap row' q ∙ E.entered) in
          λ i. signal (et i) (q i)

      offered : (s t : ℕ) → row' s ≡ Some t → WithOneMore Offered y (signal t s)
      offered s t e = elim (ℕ_discrete s y.step) [ yes q ↦ inr (at_its_step s t q e) | no q ↦ inl (B.offered s t (E.only s t q e).0) ]

      over_itself : Over y y
      over_itself = elim (total y.time y.time y.step) [ inl c ↦ c | inr c ↦ c ]

      covered : (z : Signal) → WithOneMore Offered y z → (u : ℕ) × (v : ℕ) × (row' u ≡ Some v) × Over (signal v u) z
      covered z (inr q) = (y.step, y.time, E.entered, subst (Over y) (sym q) over_itself)
      covered z (inl p) =
          let (s, t, e, c) = B.covered z p in
          elim (decide y (signal t s)) [
            | yes d ↦ (y.step, y.time, E.entered, transitive y (signal t s) z d c)
            | no d ↦ elim (ℕ_discrete s y.step) [
              | no q ↦ (s, t, E.stays s t q e d, c)
              | yes q ↦ absurd (new s t e (elim (total t y.time s) [
                | inl w ↦ subst (λ (u : ℕ). Over (signal t s) (signal y.time u)) q w
                | inr w ↦ absurd (d (subst (λ (u : ℕ). Over (signal y.time u) (signal t s)) q w))
              ]))
            ]
          ]

      apart : (s t s' t' : ℕ) → row' s ≡ Some t → row' s' ≡ Some t' → Over (signal t s) (signal t' s') → s ≡ s'
      apart s t s' t' e e' c =
          elim (ℕ_discrete s y.step) [
            | yes q ↦ elim (ℕ_discrete s' y.step) [
              | yes q' ↦ q ∙ sym q'
              | no q' ↦ absurd ((E.only s' t' q' e').1 (subst (λ (w : Signal). Over w (signal t' s')) (at_its_step s t q e) c))
            ]
            | no q ↦ elim (ℕ_discrete s' y.step) [
              | yes q' ↦ absurd (new s t (E.only s t q e).0 (subst (Over (signal t s)) (at_its_step s' t' q' e') c))
              | no q' ↦ B.apart s t s' t' (E.only s t q e).0 (E.only s' t' q' e').0 c
            ]
          ]

module _ (Over : Signal → Signal → Type 0) (transitive : (x y z : Signal) → Over x y → Over y z → Over x z) (antisymmetric : (x y : Signal) → Over x y → Over y x → x ≡ y) (reflexive : (x : Signal) → Over x x) (decide : (x z : Signal) → Dec (Over x z)) where
  -- of finitely many, over each there is one that no other is over
  pub maximal_over : (ys : List Signal) (y : Signal) → (z : Signal) × ((z ≡ y) ⊎ In z ys) × Over z y × ((w : Signal) → In w ys → Over w z → w ≡ z)
  maximal_over [] y = (y, inl refl, reflexive y, λ w i c. absurd i)
  maximal_over (x ∷ xs) y = go (decide x y) (maximal_over xs x) (maximal_over xs y)
    where
      Maximal : Signal → Type 0
      Maximal v = (z : Signal) × ((z ≡ v) ⊎ In z xs) × Over z v × ((w : Signal) → In w xs → Over w z → w ≡ z)

      go : Dec (Over x y) → Maximal x → Maximal y → (z : Signal) × ((z ≡ y) ⊎ In z (x ∷ xs)) × Over z y × ((w : Signal) → In w (x ∷ xs) → Over w z → w ≡ z)
      go (yes h) of-x of-y =
          let (z, i, k, none_over) = of-x in
          (z, inr i, transitive z x y k h, λ w. elim [ inl q ↦ (λ v. q ∙ antisymmetric x z (subst (λ (g : Signal). Over g z) q v) k) | inr j ↦ (λ v. none_over w j v) ])
      go (no h) of-x of-y =
          let (z, i, k, none_over) = of-y in
          (z, elim i [ inl q ↦ inl q | inr j ↦ inr (inr j) ], k, λ w. elim [ inl q ↦ (λ v. absurd (h (transitive x z y (subst (λ (g : Signal). Over g z) q v) k))) | inr j ↦ (λ v. none_over w j v) ])

  -- a row of exactly the maximal ones of finitely many is pruned from them
  pub maximal_row : (ys : List Signal) (row : ℕ → Option ℕ) → ((s t : ℕ) → (row s ≡ Some t) ↔ (In (signal t s) ys × ((w : Signal) → In w ys → Over w (signal t s) → w ≡ signal t s))) → ParetoRow Over (λ y. In y ys) row
  maximal_row ys row holds =
      record {
        offered = λ s t e. ((holds s t).0 e).0;
        covered = λ y i. (let (z, j, k, none_over) = maximal_over ys y in
            (z.step, z.time, (holds z.step z.time).1 (elim j [ inl q ↦ subst (λ (g : Signal). In g ys) (sym q) i | inr p ↦ p ], none_over), k));
        apart = λ s t s' t' e e' c. ap (λ (z : Signal). z.step) (((holds s' t').0 e').1 (signal t s) ((holds s t).0 e).0 c);
      }
