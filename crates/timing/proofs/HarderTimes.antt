-- The hardest to meet of some required times, and of one more. Assumes nothing.
use Rattle.std.proofs.Common.{◌≡◌, false, ◌⊎◌, ℤ, Some, None, Option, sym, refl, ap, ◌∙◌, subst, inl, inr}
use mathlib.Core.Bool.{false≢true}
use Rattle.units.specs.Senses.{Order, Lawful}
use Rattle.paths.specs.Slacks.{First}
use Rattle.paths.proofs.Covering.{as_bad_refl}
use Rattle.std.proofs.lemmas.Option.{none-some, same_Some}
use Rattle.timing.specs.Areas.{figure, HasEntry}
use Rattle.timing.specs.RequiredRows.{AsHard, HarderOf}
use Rattle.timing.proofs.Figures.{figure_above, figure_is_above}

-- figures that are the same have the same first
pub first_same : (Before : ℤ → ℤ → Type 0) (Is Also : ℤ → Type 0) → ((z : ℤ) → Is z → Also z) → ((z : ℤ) → Also z → Is z) → (x : Option ℤ) → First Before Is x → First Before Also x
first_same Before Is Also into back None first = λ z q. first z (back z q)
first_same Before Is Also into back (Some a) first = (into a first.0, λ z q. first.1 z (back z q))

-- some figures, and the one more where there is one
abbrev pub OrFigure : (ℤ → Type 0) → Option ℤ → ℤ → Type 0
OrFigure Is more z = Is z ⊎ (more ≡ Some z)

-- the second of two, where it is not as bad as the first
pub harder_second : (o : Order) → Lawful o → (a b r : ℤ) → figure a ≡ Some a → figure b ≡ Some b → r ≡ b → o.as_bad b a ≡ false → HarderOf o (figure a) (figure b) (figure r)
harder_second o law a b r ea eb er h =
    subst (λ (x : Option ℤ). HarderOf o x (figure b) (figure r)) (sym ea)
    (subst (λ (y : Option ℤ). HarderOf o (Some a) y (figure r)) (sym eb)
    (inr (ap figure er ∙ eb, elim (law.total a b) [ inl p ↦ p | inr p ↦ absurd (false≢true (sym h ∙ p)) ])))

-- the harder of an entry's figure and of one that has an entry has one
pub harder_has_entry : (o : Order) (z : ℤ) (y r : Option ℤ) → HarderOf o (figure z) y r → HasEntry y → HasEntry r
harder_has_entry o z y r h entry = go (figure z) refl y h entry
  where
    go : (x : Option ℤ) → figure z ≡ x → (y : Option ℤ) → HarderOf o x y r → HasEntry y → HasEntry r
    go None e y h entry = subst HasEntry (sym h) entry
    go (Some a) e None h entry = subst HasEntry (sym h) (figure_above a (figure_is_above z a e))
    go (Some a) e (Some b) (inl h) entry = subst HasEntry (sym h.0) (figure_above a (figure_is_above z a e))
    go (Some a) e (Some b) (inr h) entry = subst HasEntry (sym h.0) entry

module _ (o : Order) (law : Lawful o) where
  -- a figure alone is the hardest
  pub alone : (x : Option ℤ) → First (AsHard o) (λ z. x ≡ Some z) x
  alone None = none-some
  alone (Some a) = (refl, λ z e. subst (λ (v : ℤ). AsHard o a v) (same_Some a z e) (as_bad_refl o law a))

  module _ (Is : ℤ → Type 0) where
    only : (more : Option ℤ) → ((z : ℤ) → ¬ Is z) → First (AsHard o) (OrFigure Is more) more
    only None none = λ z. elim [ inl p ↦ none z p | inr e ↦ none-some z e ]
    only (Some v) none = (inr refl, λ z. elim [ inl p ↦ absurd (none z p) | inr e ↦ subst (AsHard o v) (same_Some v z e) (as_bad_refl o law v) ])

    stays : (a : ℤ) (more : Option ℤ) → First (AsHard o) Is (Some a) → ((v : ℤ) → more ≡ Some v → AsHard o a v) → First (AsHard o) (OrFigure Is more) (Some a)
    stays a more first h = (inl first.0, λ z. elim [ inl p ↦ first.1 z p | inr e ↦ h z e ])

    taken : (a v : ℤ) → First (AsHard o) Is (Some a) → AsHard o v a → First (AsHard o) (OrFigure Is (Some v)) (Some v)
    taken a v first h =
        (inr refl, λ z. elim [ inl p ↦ law.transitive z a v (first.1 z p) h | inr e ↦ subst (AsHard o v) (same_Some v z e) (as_bad_refl o law v) ])

    -- the harder of the hardest and of the one more is the hardest of all
    pub harder_first : (x more r : Option ℤ) → HarderOf o x more r → First (AsHard o) Is x → First (AsHard o) (OrFigure Is more) r
    harder_first None more r h first = subst (First (AsHard o) (OrFigure Is more)) (sym h) (only more first)
    harder_first (Some a) None r h first = subst (First (AsHard o) (OrFigure Is None)) (sym h) (stays a None first (λ v e. absurd (none-some v e)))
    harder_first (Some a) (Some v) r (inl h) first = subst (First (AsHard o) (OrFigure Is (Some v))) (sym h.0) (stays a (Some v) first (λ z e. subst (AsHard o a) (same_Some v z e) h.1))
    harder_first (Some a) (Some v) r (inr h) first = subst (First (AsHard o) (OrFigure Is (Some v))) (sym h.0) (taken a v first h.1)
