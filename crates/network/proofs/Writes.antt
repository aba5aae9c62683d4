-- What holds at each place of an array after a write. Assumes nothing.
use Rattle.std.proofs.Common.{ℕ, ◌<◌, ◌≢◌, List, length, get_or, set, sym, subst}
use native.Mathlib.Decide.{ℕ_discrete}
use Rattle.std.proofs.lemmas.List.{get_or-set_same, get_or-set_other}

-- it holds of the value written, and of each other place
pub after_set : {X : Type 0} (P : ℕ → X → Type 0) (d : X) (xs : List X) (i : ℕ) (v : X) → i < length xs → P i v → ((k : ℕ) → k ≢ i → P k (get_or xs k d)) → (k : ℕ) → P k (get_or (set xs i v) k d)
after_set P d xs i v lt here there k = elim (ℕ_discrete k i) [
  | yes q ↦ subst (λ n. P n (get_or (set xs i v) n d)) (sym q) (subst (P i) (sym (get_or-set_same xs i v d lt)) here)
  | no q ↦ subst (P k) (sym (get_or-set_other xs i k v d q)) (there k q)
]

-- the same in an array of numbers
pub after_write : (P : ℕ → ℕ → Type 0) (xs : List ℕ) (i v : ℕ) → i < length xs → P i v → ((k : ℕ) → k ≢ i → P k (get_or xs k 0)) → (k : ℕ) → P k (get_or (set xs i v) k 0)
after_write P xs i v = after_set P 0 xs i v
