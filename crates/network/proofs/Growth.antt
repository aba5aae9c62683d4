-- What holds of every net or arc still holds after one is added. Assumes nothing.
use Rattle.std.proofs.Common.{◌≡◌, ℕ, zero, suc, ◌<◌, ◌≤◌, List, [], ◌∷◌, ◌++◌, length, get_or, sym, subst, arith}
use Rattle.paths.specs.declared.blocks.Arc.{Arc}
use Rattle.paths.specs.Blocks.{no_arc, Joined}

-- at each place of the list
each_push : {X : Type 0} (P : X → Type 0) (d : X) (xs : List X) (x : X) → ((i : ℕ) → i < length xs → P (get_or xs i d)) → P x → (i : ℕ) → i < length (xs ++ x ∷ []) → P (get_or (xs ++ x ∷ []) i d)
each_push P d [] x h p zero lt = p
each_push P d [] x h p (suc i) lt = absurd (omega arith)
each_push P d (y ∷ ys) x h p zero lt = h 0 (omega arith)
each_push P d (y ∷ ys) x h p (suc i) lt = each_push P d ys x (λ k l. h (suc k) (omega arith)) p i (omega arith)

-- at every place, within the list or past it
every_push : {X : Type 0} (P : X → Type 0) (d : X) (xs : List X) (x : X) → ((i : ℕ) → P (get_or xs i d)) → P x → P d → (i : ℕ) → P (get_or (xs ++ x ∷ []) i d)
every_push P d [] x h p q zero = p
every_push P d [] x h p q (suc i) = q
every_push P d (y ∷ ys) x h p q zero = h 0
every_push P d (y ∷ ys) x h p q (suc i) = every_push P d ys x (λ k. h (suc k)) p q i

-- a figure of each element is at most `top`
pub figure_push : {X : Type 0} (figure : X → ℕ) (top : ℕ) (d x : X) (xs xs' : List X) → figure d ≤ top → figure x ≤ top → xs' ≡ xs ++ x ∷ [] → ((i : ℕ) → figure (get_or xs i d) ≤ top) → (i : ℕ) → figure (get_or xs' i d) ≤ top
figure_push figure top d x xs xs' z fx e h = subst (λ l. (i : ℕ) → figure (get_or l i d) ≤ top) (sym e) (every_push (λ y. figure y ≤ top) d xs x h fx z)

-- one more arc, from a net to a net
pub joined_push : (n : ℕ) (arcs arcs' : List Arc) (a : Arc) → arcs' ≡ arcs ++ a ∷ [] → a.tail < n → a.head < n → Joined n arcs → Joined n arcs'
joined_push n arcs arcs' a e t h j = subst (λ l. Joined n l) (sym e) (each_push (λ x. (x.tail < n) × (x.head < n)) no_arc arcs a j (t, h))

-- more nets
pub joined_more : (n m : ℕ) (arcs : List Arc) → n ≤ m → Joined n arcs → Joined m arcs
joined_more n m arcs le j i lt = let (t, h) = j i lt in (omega arith, omega arith)
