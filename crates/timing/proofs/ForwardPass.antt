-- A forward pass net by net: how it begins, goes on, and what it leaves. Assumes nothing.
use Rattle.std.proofs.Common.{◌≡◌, ℕ, zero, suc, ◌+◌, ◌*◌, ◌/◌, ◌%◌, ◌<◌, ◌≤◌, Bool, cond, ltb, List, [], ◌∷◌, length, get_or, Some, sym, refl, ap, ◌∙◌, inl, inr, arith}
use Rattle.std.proofs.lemmas.Bool.{le-ltb, lt-ltb}
use Rattle.units.specs.Senses.{Order}
use Rattle.units.specs.Senses as senses
use Rattle.units.specs.Steps.{step_count}
use Rattle.models.specs.Meaning.{Meaning}
use Rattle.models.specs.Meaning as models
use Rattle.paths.specs.declared.blocks.Net.{Net}
use Rattle.paths.specs.declared.blocks.Launch.{Launch}
use Rattle.paths.specs.Blocks.{Block, net_of, no_net, tail_of, max_nets}
use Rattle.paths.specs.Orders.{place_of}
use Rattle.paths.specs.Signals.{Signal, Covers}
use Rattle.paths.specs.CarriedCounts.{sum_below}
use Rattle.paths.specs.ArcByArc.{SignalTable, ArrivesAt, PrunedByNets, held_in}
use Rattle.paths.specs.Ranges.{latest_time}
use Rattle.paths.proofs.CountedRows.{sum_below_same}
use Rattle.timing.specs.declared.answers.SignalRecord.{SignalRecord}
use Rattle.timing.specs.Areas.{place, record_at, held_in_area, SignalsPast}
use Rattle.timing.specs.Passes.{launched_mark, CameFrom, Forwarded}
use Rattle.timing.specs.Offers.{AfterOffers, LaunchOffer, FanOutOffers, RowPruned, RowBy, kept_below, carried_where, carried_out}
use Rattle.timing.proofs.CarriedSums.{sum_stays, carried_at_most}
use Rattle.timing.proofs.HeldSignals.{held_is_kept, kept_is_held, row_counted}
use Rattle.timing.proofs.RecordWrites.{Cleared}
use Rattle.timing.proofs.ForwardNets.{InOrder, Came, NetsDone, none_done, net_done, net_counted, row_early}

-- the first p nets of the order are done, and carried is what they carried
pub record PassAt (b : Block) (m : Meaning) (o : Order) (order : List ℕ) (p : ℕ) (was is : List SignalRecord) (count : ℕ) : Type 0 where
  pub done : NetsDone b m o order p (record_at was) (record_at is)
  pub counted : count ≡ carried_where b.arcs (record_at is) (λ t. ltb (place_of order t) p) (length b.arcs)

-- before the first net, once the records of all nets are cleared
pub pass_starts : (b : Block) (m : Meaning) (o : Order) (order : List ℕ) (was is : List SignalRecord) → Cleared (step_count * length b.nets) was is → PassAt b m o order 0 was is 0
pass_starts b m o order was is C =
    record {
      done = none_done b m o order (record_at was) (record_at is) (λ n s ln ls. C.below (place n s) (omega arith)) (λ n s ge ls. C.past (place n s) (omega arith));
      counted = sym (sum_stays (λ i. cond (ltb (place_of order (tail_of b.arcs i)) 0) (kept_below (record_at is) (tail_of b.arcs i) step_count) 0) 0 (length b.arcs) (omega arith)
          (λ i ge lt. ap (λ (t : Bool). cond t (kept_below (record_at is) (tail_of b.arcs i) step_count) 0) (le-ltb (place_of order (tail_of b.arcs i)) 0 (omega arith))));
    }

-- and from the area that is cleared on
pub pass_begins : (b : Block) (m : Meaning) (o : Order) (order : List ℕ) (was is : List SignalRecord) → Cleared (step_count * length b.nets) was is → PassAt b m o order 0 is is 0
pass_begins b m o order was is C = pass_starts b m o order is is (record { below = C.below; past = λ i h. refl })

-- the count stays in its range
pub count_fits : (b : Block) (m : Meaning) (o : Order) (order : List ℕ) (p : ℕ) (was is : List SignalRecord) (count : ℕ) → PassAt b m o order p was is count → count ≤ step_count * length b.arcs
count_fits b m o order p was is count W =
    let counted = W.counted in
    let most = carried_at_most b.arcs (record_at is) (λ t. ltb (place_of order t) p) (length b.arcs) in
    omega arith

module _ {b : Block} {order : List ℕ} (G : InOrder b order) {m : Meaning} (M : models.Lawful m) {o : Order} (L : senses.Lawful o) where
  module _ {p : ℕ} {was is : List SignalRecord} {count : ℕ} (W : PassAt b m o order p was is count) (lt : p < length order) where
    abbrev net : ℕ
    net = get_or order p 0

    module _ (launched pruned : List SignalRecord) (S : AfterOffers o (LaunchOffer (net_of b net).launch net) (record_at is) (record_at launched)) (H : RowPruned o net step_count (record_at launched) (record_at pruned)) where
      -- the times of the row that is carried are in range
      pub row_in_range : length b.nets ≤ max_nets → RowBy (record_at pruned) net latest_time
      row_in_range few s ls =
          let early = row_early G M L W.done (G.ordered.numbers p lt) (G.ordered.once p lt) S H s ls in
          let here = G.ordered.once p lt in
          let long = G.ordered.long in
          omega arith

      -- one net more
      pub pass_goes_on : (next : List SignalRecord) {r : ℕ} → AfterOffers o (FanOutOffers m b.arcs net (length b.arcs) (record_at pruned)) (record_at pruned) (record_at next) → r ≡ carried_out b.arcs (record_at pruned) net (length b.arcs) → PassAt b m o order (p + 1) was next (count + r)
      pass_goes_on next V counted =
          record {
            done = net_done G M L W.done (G.ordered.numbers p lt) (G.ordered.once p lt) S H V;
            counted = net_counted G M L W.done (G.ordered.numbers p lt) (G.ordered.once p lt) S H V W.counted counted;
          }

  -- after the last net
  module _ {p : ℕ} (all : p ≡ length b.nets) {was is : List SignalRecord} {count : ℕ} (W : PassAt b m o order p was is count) where
    abbrev held : SignalTable
    held = held_in_area (length b.nets) is

    abbrev Source : ℕ → Signal → ℕ → ℕ → Type 0
    Source n y i u = CameFrom b m o (λ k x. held k x.step ≡ Some x.time) n y i u

    abbrev CameAt : ℕ → Signal → ℕ → ℕ → Type 0
    CameAt n y i u = Came b m o order p (record_at is) n y i u

    placed : (n : ℕ) → n < length b.nets → place_of order n < p
    placed n ln = omega (arith, G.ordered.whole n ln, G.ordered.long)

    source : (n : ℕ) (y : Signal) (i u : ℕ) → CameAt n y i u → Source n y i u
    source n y i u (inl p) = inl (p.1, p.2, p.3)
    source n y i u (inr p) =
        let (li, lu, lt, eh, kept, ey) = p in
        inr ((record_at is (tail_of b.arcs i) u).time, li, eh, kept_is_held (length b.nets) is (tail_of b.arcs i) u (G.joined i li).0 lu kept, ey)

    arrives : (n : ℕ) (y : Signal) (i u : ℕ) → Source n y i u → ArrivesAt b m o held n y
    arrives n y i u (inl p) = inl p.2
    arrives n y i u (inr p) = let (t, li, eh, e, ey) = p in inr (i, u, t, li, eh, e, ey)

    abbrev CameHere : ℕ → Signal → Type 0
    CameHere n y = (n < length b.nets) × ((i : ℕ) × (u : ℕ) × CameAt n y i u)

    net_launch : (nets : List Net) (n : ℕ) (l : Launch) → (get_or nets n no_net).launch ≡ Some l → n < length nets
    net_launch [] n l e = cc
    net_launch (x ∷ xs) zero l e = omega arith
    net_launch (x ∷ xs) (suc n) l e = let lt = net_launch xs n l e in omega arith

    came_here : (n : ℕ) (y : Signal) → ArrivesAt b m o held n y → CameHere n y
    came_here n y (inl launched) =
        let ln = net_launch b.nets n launched.0 launched.1 in
        (ln, (launched_mark, 0, inl (placed n ln, refl, refl, launched)))
    came_here n y (inr p) =
        let (i, u, t, li, eh, e, ey) = p in
        let (lt, lu, kept, et) = held_is_kept (length b.nets) is (tail_of b.arcs i) u t e in
        (rw (← eh) (G.joined i li).1, (i, u, inr (li, lu, placed (tail_of b.arcs i) lt, eh, kept, rw et ey)))

    pruned : PrunedByNets b m o (Covers o) held
    pruned n =
        record {
          offered = λ s t e.
              (let (ln, ls, kept, et) = held_is_kept (length b.nets) is n s t e in
              rw (← et) (arrives n _ _ _ (source n _ _ _ (W.done.sources n s ln ls kept))));
          covered = λ y c.
              (let (ln, came) = came_here n y c in
              let (i, u, f) = came in
              let (s, ls, kept, covers) = W.done.covered n y i u ln f in
              (s, (record_at is n s).time, kept_is_held (length b.nets) is n s ln ls kept, covers));
          apart = λ s t s' t' e e' c.
              (let (ln, ls, kept, et) = held_is_kept (length b.nets) is n s t e in
              let (ln', ls', kept', et') = held_is_kept (length b.nets) is n s' t' e' in
              W.done.apart n s s' ln (placed n ln) ls ls' kept kept' (rw (et, et') c));
        }

    counted : count ≡ sum_below (λ i. held_in (held (tail_of b.arcs i))) (length b.arcs)
    counted =
        W.counted
        ∙ sum_below_same (λ i. cond (ltb (place_of order (tail_of b.arcs i)) p) (kept_below (record_at is) (tail_of b.arcs i) step_count) 0) (λ i. held_in (held (tail_of b.arcs i))) (length b.arcs)
        (λ i li. ap (λ (z : Bool). cond z (kept_below (record_at is) (tail_of b.arcs i) step_count) 0) (lt-ltb _ _ (placed (tail_of b.arcs i) (G.joined i li).0)) ∙ row_counted (length b.nets) is (tail_of b.arcs i) (G.joined i li).0)

    past : SignalsPast (step_count * length b.nets) was is
    past j ge =
        let e : step_count * (j / step_count) + j % step_count ≡ j = omega arith in
        let q : record_at is (j / step_count) (j % step_count) ≡ record_at was (j / step_count) (j % step_count) = W.done.past (j / step_count) (j % step_count) (omega arith) (omega arith) in
        rw (← e) q

    -- the entries past the nets stay as they were before
    pub pass_ends : length b.nets ≤ max_nets → (first : List SignalRecord) → SignalsPast (step_count * length b.nets) first was → Forwarded b m o first is count
    pass_ends few first rest =
        record {
          pruned = pruned;
          sources = λ n s ln ls kept. source n _ _ _ (W.done.sources n s ln ls kept);
          blank = W.done.blank;
          times = λ n s ln ls. omega (arith, W.done.times n s ln ls, placed n ln);
          counted = counted;
          past = λ j ge. past j ge ∙ rest j ge;
        }
