-- What the invariant of a settled network says of its cycles and its order. Assumes nothing.
use Rattle.std.proofs.Common.{◌≡◌, ℕ, ◌<◌, List, length, Some, None, vec_items, Option, refl, ◌∙◌, subst, arith, length-take-le}
use Rattle.std.proofs.lemmas.List.{get_or-take}
use Rattle.paths.specs.declared.blocks.Arc.{Arc}
use Rattle.paths.specs.Blocks.{Block, head_of, Joined}
use Rattle.paths.specs.Cycles.{CycleAt, TakenOff}
use Rattle.paths.specs.Orders.{Placed, Unplaced, Numbers, Whole, LowestUnplaced, TopologicalOrder}
use Rattle.paths.proofs.TakingOff.{left_is_reachable, cycle_at}
use Rattle.network.specs.declared.settled.Network.{Network}
use Rattle.network.specs.Settling.{network_block, Settled}
use Rattle.network.specs.Sorting.{order_nets, placed_nets}

lowest_of : (nets : ℕ) (order : List ℕ) (o : Option ℕ) → (o ≡ None → Whole nets order) → ((n : ℕ) → o ≡ Some n → (n < nets) × Unplaced order n) → ((n k : ℕ) → o ≡ Some n → k < n → Placed order k) → LowestUnplaced nets order o
lowest_of nets order None whole left below = whole refl
lowest_of nets order (Some n) whole left below = ((left n refl).0, (left n refl).1, λ k. below n k refl)

pub found_cycle : (b : Block) (count : ℕ) (arcs : List Arc) (order : List ℕ) (o : Option ℕ) → count ≡ length b.nets → arcs ≡ b.arcs → Joined (length b.nets) b.arcs → TakenOff count arcs order → LowestUnplaced count order o → CycleAt b o
found_cycle b count arcs order o ec ea joined off low =
    cycle_at b order joined (subst (λ n. TakenOff n b.arcs order) ec (subst (λ l. TakenOff count l order) ea off)) o (subst (λ n. LowestUnplaced n order o) ec low)

module _ (n : Network) where
  length_placed : length (placed_nets n.order) ≡ n.order.placed
  length_placed = length-take-le n.order.placed (order_nets n.order) n.order.within

  placed_numbers : Numbers (length (vec_items n.netlist.nets)) (placed_nets n.order)
  placed_numbers k lt = let few = length_placed in let same = get_or-take n.order.placed (order_nets n.order) k 0 (omega arith) in let number = n.numbers k (omega arith) in omega arith

  off : TakenOff (length (vec_items n.netlist.nets)) (vec_items n.netlist.arcs) (placed_nets n.order)
  off = record { numbers = placed_numbers; once = n.once; tails_first = n.tails_first; none_can_be_placed = n.none_can_be_placed }

  pub network_cycle : CycleAt (network_block n) n.cycle
  network_cycle = cycle_at (network_block n) (placed_nets n.order) n.netlist.joined off n.cycle (lowest_of (length (vec_items n.netlist.nets)) (placed_nets n.order) n.cycle n.whole n.left n.lowest)

  pub network_order : n.cycle ≡ None → TopologicalOrder (length (vec_items n.netlist.nets)) (vec_items n.netlist.arcs) (placed_nets n.order)
  network_order e = record {
    long = length_placed ∙ n.all_placed e;
    numbers = placed_numbers;
    once = n.once;
    whole = n.whole e;
    tails_first = λ i lt. n.tails_first i lt (n.whole e (head_of (vec_items n.netlist.arcs) i) (n.netlist.joined i lt).1);
  }

  pub settled_whole : Settled (network_block n) n
  settled_whole = record {
    same = refl;
    cycle_at = network_cycle;
    numbers = placed_numbers;
    once = n.once;
    tails_first = n.tails_first;
    left_is_reachable = left_is_reachable (network_block n) (placed_nets n.order) n.netlist.joined off;
    topological = network_order;
    fans = n.fans;
  }
