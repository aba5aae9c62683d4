-- What is none is not some, and what is some of two is the same. Assumes nothing.
use Rattle.std.proofs.Common.{◌≡◌, ℕ, Some, None, arith}

pub none_is_not_some : {A : Type 0} (a : A) → ¬ (None ≡ Some a)
none_is_not_some a e = let z : ◌≡◌ {A = ℕ} 0 1 = cc in omega arith

pub some_injective : {A : Type 0} (a b : A) → Some a ≡ Some b → a ≡ b
some_injective a b e = cc
