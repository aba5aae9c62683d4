-- The first of the figures that there are: what comes before them, one more offered, and that there is only one. Assumes nothing.
use Rattle.std.proofs.Common.{◌≡◌, ◌⊎◌, ℤ, ◌≤ℤ◌, Some, None, Option, sym, refl, ap, subst, inl, inr, arith}
use Rattle.std.proofs.lemmas.Int.{ints}
use Rattle.paths.specs.Slacks.{First, Least}
use Rattle.paths.proofs.Options.{none_is_not_some, some_injective}

-- where there is a figure there is a first, and it comes before that figure
pub first_has : (Before : ℤ → ℤ → Type 0) (Is : ℤ → Type 0) (x : Option ℤ) → First Before Is x → (z : ℤ) → Is z → (a : ℤ) × (x ≡ Some a) × Before a z
first_has Before Is None first z p = absurd (first z p)
first_has Before Is (Some a) first z p = (a, refl, first.1 z p)

-- the first is one of the figures
pub first_is : (Before : ℤ → ℤ → Type 0) (Is : ℤ → Type 0) (x : Option ℤ) → First Before Is x → (a : ℤ) → x ≡ Some a → Is a
first_is Before Is None first a e = absurd (none_is_not_some a e)
first_is Before Is (Some c) first a e = subst Is (some_injective c a e) first.0

-- a first of some figures is a first of more of them, where one of the former comes before each
pub first_moved : (Before : ℤ → ℤ → Type 0) (Is Also : ℤ → Type 0) → ((a c d : ℤ) → Before a c → Before c d → Before a d) → ((z : ℤ) → Is z → Also z) → ((z : ℤ) → Also z → (a : ℤ) × Is a × Before a z) → (x : Option ℤ) → First Before Is x → First Before Also x
first_moved Before Is Also transitive into back None first = λ z q. first (back z q).0 (back z q).1
first_moved Before Is Also transitive into back (Some a) first =
    (into a first.0, λ z q. (let (c, p, h) = back z q in transitive a c z (first.1 c p) h))

-- one of the figures, or one more
abbrev pub OrOneMore : (ℤ → Type 0) → ℤ → ℤ → Type 0
OrOneMore Is z w = Is w ⊎ (w ≡ z)

-- the first stays where it comes before the one more
pub first_keeps : (Before : ℤ → ℤ → Type 0) (Is : ℤ → Type 0) (a z : ℤ) → First Before Is (Some a) → Before a z → First Before (OrOneMore Is z) (Some a)
first_keeps Before Is a z first h = (inl first.0, go)
  where
    go : (w : ℤ) → OrOneMore Is z w → Before a w
    go w (inl p) = first.1 w p
    go w (inr q) = subst (Before a) (sym q) h

-- the one more is the new first where it comes before the old, or where there was none
pub first_takes : (Before : ℤ → ℤ → Type 0) (Is : ℤ → Type 0) (z : ℤ) → ((a c d : ℤ) → Before a c → Before c d → Before a d) → Before z z → (x : Option ℤ) → First Before Is x → ((a : ℤ) → x ≡ Some a → Before z a) → First Before (OrOneMore Is z) (Some z)
first_takes Before Is z transitive self x first h = (inr refl, go)
  where
    go : (w : ℤ) → OrOneMore Is z w → Before z w
    go w (inl p) = let (a, e, r) = first_has Before Is x first w p in transitive z a w (h a e) r
    go w (inr q) = subst (Before z) (sym q) self

-- there is only one first
pub first_unique : (Before : ℤ → ℤ → Type 0) (Is : ℤ → Type 0) → ((a c : ℤ) → Before a c → Before c a → a ≡ c) → (x y : Option ℤ) → First Before Is x → First Before Is y → x ≡ y
first_unique Before Is antisymmetric None None f g = refl
first_unique Before Is antisymmetric None (Some c) f g = absurd (f c g.0)
first_unique Before Is antisymmetric (Some a) None f g = absurd (g a f.0)
first_unique Before Is antisymmetric (Some a) (Some c) f g = ap Some (antisymmetric a c (f.1 c g.0) (g.1 a f.0))

pub ≤ℤ-transitive : (a c d : ℤ) → a ≤ℤ c → c ≤ℤ d → a ≤ℤ d
≤ℤ-transitive a c d h i = omega (arith, ints)

-- a least of some figures is a least of more of them, where one of the former is no greater than each
pub least_moved : (Is Also : ℤ → Type 0) → ((z : ℤ) → Is z → Also z) → ((z : ℤ) → Also z → (a : ℤ) × Is a × (a ≤ℤ z)) → (x : Option ℤ) → Least Is x → Least Also x
least_moved Is Also into back x least = first_moved ◌≤ℤ◌ Is Also ≤ℤ-transitive into back x least

-- there is only one least
pub least_unique : (Is : ℤ → Type 0) (x y : Option ℤ) → Least Is x → Least Is y → x ≡ y
least_unique Is x y f g = first_unique ◌≤ℤ◌ Is (λ a c h i. omega (arith, ints)) x y f g
