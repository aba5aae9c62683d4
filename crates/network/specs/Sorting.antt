-- What sorting the nets keeps: how many arcs into each net wait, and which nets are placed. Assumes nothing.
use Rattle.std.specs.Prelude.{◌≡◌, ℕ, zero, suc, ◌+◌, ◌<◌, Bool, true, false, cond, ◌&&◌, List, length, take, Some, None, Option, ◌==◌, nat_eq, nat_le, nat_lt, slice_index}
use Rattle.paths.specs.declared.blocks.Arc.{Arc}
use Rattle.paths.specs.Blocks.{tail_of, head_of}
use Rattle.paths.specs.Orders.{place_of, Placed, Unplaced, Numbers, Once, TailsFirst}
use Rattle.network.specs.declared.order.Order.{Order}

-- the entries of an order, one for each net, and of these the nets that are placed
abbrev pub order_nets : Order → List ℕ
order_nets o = take o.count o.nets

abbrev pub placed_nets : Order → List ℕ
placed_nets o = take o.placed (order_nets o)

abbrev pub one_if : Bool → ℕ
one_if true = 1
one_if false = 0

-- how many of the numbers below k pass a test
abbrev pub count_below : (ℕ → Bool) → ℕ → ℕ
count_below test zero = 0
count_below test (suc k) = one_if (test k) + count_below test k

-- the arcs into a net, of the first k
abbrev pub arcs_into : List Arc → ℕ → ℕ → ℕ
arcs_into arcs h k = count_below (λ j. nat_eq (head_of arcs j) h) k

abbrev pub Counted : List Arc → ℕ → List ℕ → Type 0
Counted arcs k pending = (h : ℕ) → h < length pending → slice_index pending h ≡ arcs_into arcs h k

-- The nets are placed one after the other, and the arcs out of each in rising number. With the arcs out of the net at place
-- `at` counted off as far as below i, the arc j still waits if its tail stands further on, or there and j is at least i.
abbrev pub waits : ℕ → ℕ → ℕ → ℕ → Bool
waits place at i j = cond (place == at) (nat_le i j) (nat_lt at place)

-- the arcs into a net that wait
abbrev pub waiting : List Arc → List ℕ → ℕ → ℕ → ℕ → ℕ
waiting arcs order at i h = count_below (λ j. (head_of arcs j == h) && waits (place_of order (tail_of arcs j)) at i j) (length arcs)

-- the zeros among the first k counts
abbrev pub zeros : List ℕ → ℕ → ℕ
zeros pending k = count_below (λ n. nat_eq (slice_index pending n) 0) k

-- the nets that no arc leads into, of the first k, are placed
pub record SourcesPlaced (pending : List ℕ) (k : ℕ) (order : List ℕ) : Type 0 where
  pub numbers : Numbers k order
  pub once : Once order
  pub placed : (n : ℕ) → n < k → slice_index pending n ≡ 0 → Placed order n
  pub unplaced : (n : ℕ) → 0 < slice_index pending n → Unplaced order n
  pub full : length order ≡ zeros pending k

-- the nets that no waiting arc leads into are placed, each after the tails of all arcs into it
pub record Sorting (arcs : List Arc) (at i : ℕ) (pending order : List ℕ) : Type 0 where
  pub numbers : Numbers (length pending) order
  pub once : Once order
  pub tails_first : TailsFirst arcs order
  pub counted : (h : ℕ) → h < length pending → slice_index pending h ≡ waiting arcs order at i h
  pub placed : (n : ℕ) → n < length pending → slice_index pending n ≡ 0 → Placed order n
  pub unplaced : (n : ℕ) → 0 < slice_index pending n → Unplaced order n
  pub full : length order ≡ zeros pending (length pending)

-- no net waits for an arc; or this is the lowest that does
abbrev pub LowestPending : List ℕ → Option ℕ → Type 0
LowestPending pending None = (n : ℕ) → n < length pending → slice_index pending n ≡ 0
LowestPending pending (Some n) = (n < length pending) × (0 < slice_index pending n) × ((k : ℕ) → k < n → slice_index pending k ≡ 0)
