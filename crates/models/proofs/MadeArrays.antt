-- Arrays made by a closure: what holds of each call holds at each place. Assumes nothing.
use Rattle.std.proofs.Common.{◌≡◌, ℕ, zero, suc, ◌+◌, ◌<◌, List, get_or, sym, subst, zero-add, le_of_suc-le-suc, not-suc-le-zero, arith}
use Rattle.std.specs.Array.{IsFromFnResult, IsFromFnResultFrom}
use Rattle.std.specs.Fn.{Mut, Called}

from_place : {F B : Type 0} (g : Mut F (ℕ × Unit {0}) B) (P : ℕ → B → Type 0) (f : F) → ((i : ℕ) (y : B) (f' : F) → Called g f (i, tt) y f' → P i y × (f' ≡ f))
    → (ys : List B) (d : B) (i n k : ℕ) → IsFromFnResultFrom g f ys i n → k < n → P (i + k) (get_or ys (i + k) d)
from_place g P f call ys d i zero k calls l = absurd (not-suc-le-zero l)
from_place g P f call ys d i (suc n) zero (f', y, at, called, rest) l =
    let e : i + 0 ≡ i = omega arith in
    rw e (subst (P i) (sym (at.1 d)) (call i y f' called).0)
from_place {F = F} g P f call ys d i (suc n) (suc k) (f', y, at, called, rest) l =
    let e : i + suc k ≡ i + 1 + k = omega arith in
    let same = subst (λ (q : F). IsFromFnResultFrom g q ys (i + 1) n) (call i y f' called).1 rest in
    rw e (from_place g P f call ys d (i + 1) n k same (le_of_suc-le-suc l))

-- the calls leave the closure as it was
pub each_place : {F B : Type 0} {g : Mut F (ℕ × Unit {0}) B} {f : F} {ys : List B} {n : ℕ} (P : ℕ → B → Type 0) → IsFromFnResult g f ys n
    → ((i : ℕ) (y : B) (f' : F) → Called g f (i, tt) y f' → P i y × (f' ≡ f)) → (d : B) (k : ℕ) → k < n → P k (get_or ys k d)
each_place {g = g} {f} {ys} {n} P made call d k l = rw zero-add at (from_place g P f call ys d 0 n k made.each l)
