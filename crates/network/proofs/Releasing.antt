-- The arcs out of one net counted off, one after the other. Assumes nothing.
use Rattle.std.proofs.Common.{◌≡◌, ℕ, ◌+◌, ◌-◌, ◌<◌, ◌≤◌, ◌≢◌, List, [], ◌∷◌, ◌++◌, length, get_or, drop, set, sym, ap, ◌∙◌, subst, inl, inr, arith}
use Rattle.std.proofs.lemmas.List.{length-set, length_push, get_or_append_left}
use Rattle.std.proofs.lemmas.Bool.{cases_lt}
use Rattle.paths.specs.declared.blocks.Arc.{Arc}
use Rattle.paths.specs.Blocks.{tail_of, head_of, Joined}
use Rattle.paths.specs.Orders.{place_of}
use Rattle.network.specs.FanOuts.{arcs_out}
use Rattle.network.specs.Sorting.{Sorting}
use Rattle.network.proofs.FanOuts.{NextOut, next_listed, none_listed}
use Rattle.network.proofs.SortingSteps.{skip, released, some_waits, has_room, still_waits, head_placed}

-- of the arcs out of the net at its place those before place x of their list are counted off, which are those below k
pub record Releasing (arcs : List Arc) (at k net : ℕ) (list : List ℕ) (x : ℕ) (pending order : List ℕ) : Type 0 where
  pub within : at < length order
  pub net_is : get_or order at 0 ≡ net
  pub joined : Joined (length pending) arcs
  pub left_is : drop x list ≡ arcs_out (drop k arcs) net k
  pub sorting : Sorting arcs at k pending order

-- the next one is an arc i with head h; h counted off, and placed or not
pub record Step (arcs : List Arc) (at net : ℕ) (list : List ℕ) (x i h : ℕ) (pending order : List ℕ) : Type 0 where
  pub is_arc : i < length arcs
  pub inside : h < length pending
  pub waits : 0 < get_or pending h 0
  pub room : length order < length pending
  pub on : get_or pending h 0 - 1 ≢ 0 → Releasing arcs at (i + 1) net list (x + 1) (set pending h (get_or pending h 0 - 1)) order
  pub placed : get_or pending h 0 - 1 ≡ 0 → Releasing arcs at (i + 1) net list (x + 1) (set pending h (get_or pending h 0 - 1)) (order ++ h ∷ [])

module _ (arcs : List Arc) (at k net : ℕ) (list : List ℕ) (x : ℕ) (pending order : List ℕ) (R : Releasing arcs at k net list x pending order) where
  module _ (lt : x < length list) where
    abbrev arc : ℕ
    arc = get_or list x 0

    next : NextOut arcs net k arc (drop (x + 1) list)
    next = next_listed arcs net k x list lt R.left_is

    here : place_of order (tail_of arcs arc) ≡ at
    here = ap (place_of order) (next.2 ∙ sym R.net_is) ∙ R.sorting.once at R.within

    sorted : Sorting arcs at arc pending order
    sorted = skip arcs at k arc pending order R.within next.0 (λ j ge h own. next.3 j ge h (own ∙ R.net_is)) R.sorting

    head_waits : 0 < get_or pending (head_of arcs arc) 0
    head_waits = some_waits arcs at arc pending order R.joined sorted R.within next.1 here

    still_joined : (left : ℕ) → Joined (length (set pending (head_of arcs arc) left)) arcs
    still_joined left = subst (λ n. Joined n arcs) (sym (length-set pending (head_of arcs arc) left)) R.joined

    pub step : Step arcs at net list x arc (head_of arcs arc) pending order
    step = record {
      is_arc = next.1;
      inside = (R.joined arc next.1).1;
      waits = head_waits;
      room = has_room arcs at arc pending order R.joined sorted R.within next.1 here;
      on = λ more. record {
        within = R.within;
        net_is = R.net_is;
        joined = still_joined _;
        left_is = next.4;
        sorting = let pos = head_waits in still_waits arcs at arc pending order R.joined sorted R.within next.1 here _ (omega arith) (omega arith);
      };
      placed = λ none. record {
        within = let long = length_push order (head_of arcs arc) in let within = R.within in omega arith;
        net_is = get_or_append_left order (head_of arcs arc ∷ []) 0 at R.within ∙ R.net_is;
        joined = still_joined _;
        left_is = next.4;
        sorting =
            let pos = head_waits in
            subst (λ (v : ℕ). Sorting arcs at (arc + 1) (set pending (head_of arcs arc) v) (order ++ head_of arcs arc ∷ [])) (sym none)
            (head_placed arcs at arc pending order R.joined sorted R.within next.1 here (omega arith));
      };
    }

  pub release_ends : length list ≤ x → Sorting arcs (at + 1) 0 pending order
  release_ends past = elim (cases_lt k (length arcs)) [
    | inr ge ↦ released arcs at k pending order ge R.sorting
    | inl lt ↦ released arcs at (length arcs) pending order (omega arith) (skip arcs at k (length arcs) pending order R.within (omega arith) (λ j ge h own. absurd (none_listed arcs net k x list past R.left_is j ge h (own ∙ R.net_is))) R.sorting)
  ]
