-- The entries of an order: first the nets placed, then zeros. Assumes nothing.
use Rattle.std.proofs.Common.{◌≡◌, ℕ, ◌-◌, ◌<◌, ◌≤◌, List, ◌++◌, length, get_or, take, drop, min, replicate, refl, ◌∙◌, inl, inr, arith}
use Rattle.std.proofs.lemmas.List.{get_or-take, length-take, get_or_append_left, get_or-append_right, get_or-drop, get_or-replicate}
use Rattle.std.proofs.lemmas.Bool.{cases_lt}
use Rattle.paths.specs.Orders.{Numbers}

-- each of the first entries is the number of a net, if those placed are
pub numbers_of : (count room : ℕ) (placed : List ℕ) → count ≤ room → Numbers count placed → Numbers count (take count (placed ++ drop (length placed) (replicate room 0)))
numbers_of count room placed few numbers k lt =
    let n = length placed in
    let zeros : List ℕ = drop n (replicate room 0) in
    let long : length (take count (placed ++ zeros)) ≡ min count (length (placed ++ zeros)) = length-take count (placed ++ zeros) in
    let below : k < count = grind (arith, long, lt) in
    let here : get_or (take count (placed ++ zeros)) k 0 ≡ get_or (placed ++ zeros) k 0 = get_or-take count (placed ++ zeros) k 0 below in
    elim (cases_lt k n) [
      | inl front ↦
          let same : get_or (placed ++ zeros) k 0 ≡ get_or placed k 0 = get_or_append_left placed zeros 0 k front in
          let number : get_or placed k 0 < count = numbers k front in
          omega arith
      | inr past ↦
          let at : n ≤ k = past in
          let zero : get_or zeros (k - n) 0 ≡ 0 = get_or-drop n (replicate room 0) (k - n) 0 ∙ get_or-replicate room _ 0 0 (omega arith) in
          let same : get_or (placed ++ zeros) k 0 ≡ get_or zeros (k - n) 0 = get_or-append_right placed zeros n k 0 refl at in
          omega arith
    ]
