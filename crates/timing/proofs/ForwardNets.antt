-- What holds between two nets of a forward pass, and that one more net keeps it. Assumes nothing.
use Rattle.std.proofs.Common.{◌≡◌, ℕ, ◌+◌, ◌*◌, ◌<◌, ◌≤◌, true, false, cond, eqb, ltb, ◌⊎◌, List, length, get_or, pos, Some, Option, sym, refl, ap, ◌∙◌, subst, inl, inr, add-zero, zero-add, arith}
use native.Mathlib.Decide.{ℕ_discrete}
use Rattle.std.proofs.lemmas.Bool.{cases_lt, cases_order, le-ltb, lt-ltb, eq-eqb, ne_eqb}
use Rattle.units.specs.Senses.{Order, AsBad}
use Rattle.units.specs.Senses as senses
use Rattle.units.specs.Steps.{step_count, last_step}
use Rattle.models.specs.Meaning.{Meaning, max_delay}
use Rattle.models.specs.Meaning as models
use Rattle.paths.specs.declared.blocks.Arc.{Arc}
use Rattle.paths.specs.declared.blocks.Launch.{Launch}
use Rattle.paths.specs.Blocks.{Block, Joined, TimesFit, net_of, tail_of, head_of, kind_of, time_of, latest_launch}
use Rattle.paths.specs.Runs.{IsArc}
use Rattle.paths.specs.Orders.{place_of, TopologicalOrder}
use Rattle.paths.specs.Signals.{Signal, Launches, carried, Covers}
use Rattle.paths.proofs.Covering.{as_bad_refl, covers_refl, covers_transitive}
use Rattle.paths.proofs.Places.{at_place}
use Rattle.timing.specs.declared.answers.SignalRecord.{SignalRecord}
use Rattle.timing.specs.Areas.{no_signal}
use Rattle.timing.specs.Passes.{launched_mark}
use Rattle.timing.specs.Offers.{Records, AfterOffers, LaunchOffer, FanOutOffers, RowPruned, kept_record, signal_of, kept_below, carried_where, carried_out}
use Rattle.timing.proofs.RowPruning.{turn_fits}
use Rattle.timing.proofs.Offering.{same_or_offered, none_offered}
use Rattle.timing.proofs.CarriedSums.{sum_added, kept_same}

-- nets and arcs that are timed in an order
pub record InOrder (b : Block) (order : List ℕ) : Type 0 where
  pub joined : Joined (length b.nets) b.arcs
  pub times : TimesFit b.nets
  pub ordered : TopologicalOrder (length b.nets) b.arcs order

-- The signal has come to the net when the first k nets of the order are done: it is the net's launch, or came over an arc from one of them.
abbrev pub Came : Block → Meaning → Order → List ℕ → ℕ → Records → ℕ → Signal → ℕ → ℕ → Type 0
Came b m o order k rows n y i u =
    ((place_of order n < k) × (i ≡ launched_mark) × (u ≡ 0) × Launches b o n y)
    ⊎ (IsArc b i × (u ≤ last_step) × (place_of order (tail_of b.arcs i) < k) × (head_of b.arcs i ≡ n) × ((rows (tail_of b.arcs i) u).kept ≡ true) × (y ≡ carried b m i (signal_of (rows (tail_of b.arcs i) u) u)))

-- the net keeps a signal that covers this one
abbrev pub CoveredIn : Order → Records → ℕ → Signal → Type 0
CoveredIn o rows n y = (s : ℕ) × (s ≤ last_step) × ((rows n s).kept ≡ true) × Covers o (signal_of (rows n s) s) y

-- the latest time at a place of the order
abbrev pub latest_at : ℕ → ℕ
latest_at p = latest_launch + max_delay * p

-- the first k nets of the order are done
pub record NetsDone (b : Block) (m : Meaning) (o : Order) (order : List ℕ) (k : ℕ) (was rows : Records) : Type 0 where
  pub sources : (n s : ℕ) → n < length b.nets → s ≤ last_step → (rows n s).kept ≡ true → Came b m o order k rows n (signal_of (rows n s) s) (rows n s).arc (rows n s).step
  pub covered : (n : ℕ) (y : Signal) (i u : ℕ) → n < length b.nets → Came b m o order k rows n y i u → CoveredIn o rows n y
  pub apart : (n s u : ℕ) → n < length b.nets → place_of order n < k → s ≤ last_step → u ≤ last_step → (rows n s).kept ≡ true → (rows n u).kept ≡ true → Covers o (signal_of (rows n s) s) (signal_of (rows n u) u) → s ≡ u
  pub blank : (n s : ℕ) → n < length b.nets → s ≤ last_step → (rows n s).kept ≡ false → rows n s ≡ no_signal
  pub times : (n s : ℕ) → n < length b.nets → s ≤ last_step → (rows n s).time ≤ latest_at (place_of order n)
  pub past : (n s : ℕ) → length b.nets ≤ n → s ≤ last_step → rows n s ≡ was n s

-- before the first net no signal is kept
pub none_done : (b : Block) (m : Meaning) (o : Order) (order : List ℕ) (was rows : Records) → ((n s : ℕ) → n < length b.nets → s ≤ last_step → rows n s ≡ no_signal) → ((n s : ℕ) → length b.nets ≤ n → s ≤ last_step → rows n s ≡ was n s) → NetsDone b m o order 0 was rows
none_done b m o order was rows cleared rest =
    record {
      sources = λ n s ln ls k. let none = cleared n s ln ls in cc;
      covered = λ n y i u ln c. absurd (elim c [ inl p ↦ (let lt = p.0 in omega arith) | inr p ↦ (let lt = p.2 in omega arith) ]);
      apart = λ n s u ln lt. absurd (omega arith);
      blank = λ n s ln ls k. cleared n s ln ls;
      times = λ n s ln ls. omega (arith, ap (λ (z : SignalRecord). z.time) (cleared n s ln ls));
      past = rest;
    }

-- two nets at one place of the order are the same
pub one_net : (nets : ℕ) (arcs : List Arc) (order : List ℕ) → TopologicalOrder nets arcs order → (n h : ℕ) → n < nets → h < nets → place_of order n ≡ place_of order h → n ≡ h
one_net nets arcs order T n h ln lh e =
    sym (at_place order n (T.whole n ln)) ∙ ap (λ (p : ℕ). get_or order p 0) e ∙ at_place order h (T.whole h lh)

launch_early : (launch : Option Launch) (l : Launch) → time_of launch ≤ latest_launch → launch ≡ Some l → l.time ≤ latest_launch
launch_early launch l fits e = rw e at fits

-- the row of the net gets its launch (from A to B) and is pruned (to C)
module _ {b : Block} {order : List ℕ} (G : InOrder b order) {m : Meaning} (M : models.Lawful m) {o : Order} (L : senses.Lawful o) {k n : ℕ} {was A B C : Records} (R : NetsDone b m o order k was A) (ln : n < length b.nets) (at : place_of order n ≡ k) (S : AfterOffers o (LaunchOffer (net_of b n).launch n) A B) (H : RowPruned o n step_count B C) where
  abbrev tail : ℕ → ℕ
  tail i = tail_of b.arcs i

  abbrev head : ℕ → ℕ
  head i = head_of b.arcs i

  at_step : (x y : SignalRecord) (s : ℕ) → AsBad o (pos x.time) (pos y.time) → Covers o (signal_of x s) (signal_of y s)
  at_step x y s h = record { in_time = h; in_step = as_bad_refl o L (pos s) }

  -- which rows stay
  launch_same : (h s : ℕ) → s ≤ last_step → ¬ (h ≡ n) → B h s ≡ A h s
  launch_same h s ls ne = none_offered o (LaunchOffer (net_of b n).launch n h s) (A h s) (B h s) (S h s ls) (λ e p. ne p.1)

  other_same : (h s : ℕ) → s ≤ last_step → ¬ (h ≡ n) → C h s ≡ A h s
  other_same h s ls ne = H.other_rows h s ls ne ∙ launch_same h s ls ne

  not_n : (h : ℕ) → place_of order h < k → ¬ (h ≡ n)
  not_n h lt e = let f : place_of order h ≡ k = ap (place_of order) e ∙ at in omega arith

  -- pruning leaves a record or takes its signal off
  left_or_off : (h s : ℕ) → s ≤ last_step → (C h s ≡ B h s) ⊎ (C h s ≡ no_signal)
  left_or_off h s ls = elim (ℕ_discrete h n) [ no e ↦ inl (H.other_rows h s ls e) | yes e ↦ rw e (H.fewer s ls) ]

  -- a signal that was kept is covered by one that is kept
  pruned_covered : (h s : ℕ) → s ≤ last_step → (B h s).kept ≡ true → CoveredIn o C h (signal_of (B h s) s)
  pruned_covered h s ls kept =
      elim (ℕ_discrete h n) [
        | yes e ↦ rw e (H.covered s ls (rw e at kept))
        | no e ↦ (let q = H.other_rows h s ls e in
            (s, ls, cc, rw q (covers_refl o L (signal_of (B h s) s))))
      ]

  -- the times
  time_launch : (h s : ℕ) → h < length b.nets → s ≤ last_step → (B h s).time ≤ latest_at (place_of order h)
  time_launch h s lh ls =
      elim (same_or_offered (S h s ls)) [
        | inl q ↦ rw q (R.times h s lh ls)
        | inr p ↦ (let (l, eh, el, rounded, q) = p in
            let early = launch_early (net_of b n).launch l (G.times n) el in
            rw q (omega arith))
      ]

  time_pruned : (h s : ℕ) → h < length b.nets → s ≤ last_step → (C h s).time ≤ latest_at (place_of order h)
  time_pruned h s lh ls = elim (left_or_off h s ls) [ inl q ↦ rw q (time_launch h s lh ls) | inr q ↦ rw q (omega arith) ]

  -- no time of the net's row is later when it is carried
  pub row_early : (s : ℕ) → s ≤ last_step → (C n s).time ≤ latest_at (place_of order n)
  row_early s ls = time_pruned n s ln ls

  blank_pruned : (h s : ℕ) → h < length b.nets → s ≤ last_step → (C h s).kept ≡ false → C h s ≡ no_signal
  blank_pruned h s lh ls kc =
      elim (left_or_off h s ls) [
        | inr q ↦ q
        | inl q ↦ (let f = (S h s ls).not_kept (rw q at kc) in q ∙ f ∙ R.blank h s lh ls (cc))
      ]

  -- and it is carried over the net's fan-out (to D)
  module _ {D : Records} (V : AfterOffers o (FanOutOffers m b.arcs n (length b.arcs) C) C D) where
    back_same : (h s : ℕ) → s ≤ last_step → place_of order h ≤ k → D h s ≡ C h s
    back_same h s ls le = none_offered o (FanOutOffers m b.arcs n (length b.arcs) C h s) (C h s) (D h s) (V h s ls) none
      where
        none : (e : SignalRecord) → ¬ FanOutOffers m b.arcs n (length b.arcs) C h s e
        none e p =
            let (i, lt, t, q) = p in
            let up = G.ordered.tails_first i lt in
            let et : place_of order (tail i) ≡ k = ap (place_of order) t ∙ at in
            let eh : place_of order h ≡ place_of order (head i) = ap (place_of order) q.2.0 in
            omega arith

    done_same : (h s : ℕ) → s ≤ last_step → place_of order h < k → D h s ≡ A h s
    done_same h s ls lt = back_same h s ls (omega arith) ∙ other_same h s ls (not_n h lt)

    -- what has come now had come before, or is the launch, or is carried
    abbrev ComesNow : ℕ → Signal → ℕ → ℕ → Type 0
    ComesNow h y i u =
        Came b m o order k A h y i u ⊎ (((h ≡ n) × Launches b o n y) ⊎ FanOutOffers m b.arcs n (length b.arcs) C h y.step (kept_record y.time i u))

    came_before : (h : ℕ) (y : Signal) (i u : ℕ) → Came b m o order k A h y i u → Came b m o order (k + 1) D h y i u
    came_before h y i u (inl p) = let lt = p.0 in inl (omega arith, p.1, p.2, p.3)
    came_before h y i u (inr p) =
        let (li, lu, lt, eh, kt, ey) = p in
        let e = done_same (tail i) u lu lt in
        inr (li, lu, omega arith, eh, rw e kt, rw e ey)

    comes_now : (h : ℕ) (y : Signal) (i u : ℕ) → h < length b.nets → Came b m o order (k + 1) D h y i u → ComesNow h y i u
    comes_now h y i u lh (inl p) =
        elim (cases_lt (place_of order h) k) [
          | inl lt ↦ inl (inl (lt, p.1, p.2, p.3))
          | inr ge ↦ inr (inl (let lt = p.0 in let e : h ≡ n = one_net _ _ order G.ordered h n lh ln (omega arith) in (e, rw (← e) p.3)))
        ]
    comes_now h y i u lh (inr p) =
        let (li, lu, lt, eh, kt, ey) = p in
        elim (cases_lt (place_of order (tail i)) k) [
          | inl before ↦ (let e = done_same (tail i) u lu before in inl (inr (li, lu, before, eh, rw e at kt, rw e at ey)))
          | inr ge ↦ inr (inr (offered li lu lt ge eh kt ey))
        ]
      where
        offered : i < length b.arcs → u ≤ last_step → place_of order (tail i) < k + 1 → k ≤ place_of order (tail i) → head i ≡ h → (D (tail i) u).kept ≡ true → y ≡ carried b m i (signal_of (D (tail i) u) u) → FanOutOffers m b.arcs n (length b.arcs) C h y.step (kept_record y.time i u)
        offered li lu lt ge eh kt ey =
            let et : tail i ≡ n = one_net _ _ order G.ordered (tail i) n (G.joined i li).0 ln (omega arith) in
            let ec : D (tail i) u ≡ C (tail i) u = back_same (tail i) u lu (omega arith) in
            let ez : y ≡ carried b m i (signal_of (C (tail i) u) u) = rw ec at ey in
            (i, li, et, (u, omega arith, (sym eh, rw ec at kt, ap (λ (z : Signal). z.step) ez, ap (λ (z : Signal). kept_record z.time i u) ez)))

    carried_covered : (h : ℕ) (y : Signal) → CoveredIn o C h y → CoveredIn o D h y
    carried_covered h y c =
        let (s, ls, kc, cv) = c in
        let d = (V h s ls).old kc in
        (s, ls, d.0, covers_transitive o L (signal_of (D h s) s) (signal_of (C h s) s) y (at_step (D h s) (C h s) s d.1) cv)

    still_covered : (h s : ℕ) (y : Signal) → s ≤ last_step → (B h s).kept ≡ true → Covers o (signal_of (B h s) s) y → CoveredIn o D h y
    still_covered h s y ls kept cv =
        let (u, lu, kc, d) = pruned_covered h s ls kept in
        carried_covered h y (u, lu, kc, covers_transitive o L (signal_of (C h u) u) (signal_of (B h s) s) y d cv)

    now_covered : (h : ℕ) (y : Signal) (i u : ℕ) → h < length b.nets → ComesNow h y i u → CoveredIn o D h y
    now_covered h y i u lh (inl c) =
        let (s, ls, ka, cv) = R.covered h y i u lh c in
        let e = (S h s ls).old ka in
        still_covered h s y ls e.0 (covers_transitive o L (signal_of (B h s) s) (signal_of (A h s) s) y (at_step (B h s) (A h s) s e.1) cv)
    now_covered h y i u lh (inr (inl p)) =
        let (eh, launched) = p in
        let (l, el, et, rounded) = launched in
        let ls : y.step ≤ last_step = rounded.within in
        let e = (S h y.step ls).new (kept_record l.time launched_mark 0) (l, eh, el, rounded, refl) in
        still_covered h y.step y ls e.0 (record { in_time = rw et e.1; in_step = as_bad_refl o L (pos y.step) })
    now_covered h y i u lh (inr (inr p)) =
        let output : y.step ≡ m.output_step (kind_of b.arcs p.0) p.3.0 = p.3.2.2 in
        let ls : y.step ≤ last_step = omega (arith, M.output_step.fits (kind_of b.arcs p.0) p.3.0) in
        let d = (V h y.step ls).new (kept_record y.time i u) p in
        (y.step, ls, d.0, record { in_time = d.1; in_step = as_bad_refl o L (pos y.step) })

    -- where each signal came from
    abbrev CameWith : ℕ → ℕ → SignalRecord → Type 0
    CameWith h s e = Came b m o order (k + 1) D h (signal_of e s) e.arc e.step

    source_launch : (h s : ℕ) → h < length b.nets → s ≤ last_step → (B h s).kept ≡ true → CameWith h s (B h s)
    source_launch h s lh ls kept =
        elim ((S h s ls).source kept) [
          | inl e ↦ rw e (came_before h (signal_of (A h s) s) (A h s).arc (A h s).step (R.sources h s lh ls (rw e at kept)))
          | inr p ↦ (let (l, eh, el, rounded, e) = p in
              let f : place_of order h ≡ k = ap (place_of order) eh ∙ at in
              rw e (inl (omega arith, refl, refl, (l, rw eh el, refl, rounded))))
        ]

    source_pruned : (h s : ℕ) → h < length b.nets → s ≤ last_step → (C h s).kept ≡ true → CameWith h s (C h s)
    source_pruned h s lh ls kept = elim (left_or_off h s ls) [ inl q ↦ rw q (source_launch h s lh ls (rw q at kept)) | inr q ↦ cc ]

    source_now : (h s : ℕ) → h < length b.nets → s ≤ last_step → (D h s).kept ≡ true → CameWith h s (D h s)
    source_now h s lh ls kept =
        elim ((V h s ls).source kept) [
          | inl e ↦ subst (CameWith h s) (sym e) (source_pruned h s lh ls (rw e at kept))
          | inr p ↦ over_arc p
        ]
      where
        over_arc : FanOutOffers m b.arcs n (length b.arcs) C h s (D h s) → CameWith h s (D h s)
        over_arc p =
            let (i, li, et, q) = p in
            let (u, lu, z) = q in
            let er : place_of order (tail i) ≡ k = ap (place_of order) et ∙ at in
            let ec : D (tail i) u ≡ C (tail i) u = back_same (tail i) u (omega arith) (omega arith) in
            let ce = sym ec in
            subst (CameWith h s) (sym z.3)
            (inr (li, omega arith, omega arith, sym z.0, rw ec z.1, (λ j. record { time = (ce j).time + m.delay (kind_of b.arcs i) u; step = z.2 j })))

    -- the head of an arc stands after the tail, so it has room for one more delay
    time_now : (h s : ℕ) → h < length b.nets → s ≤ last_step → (D h s).time ≤ latest_at (place_of order h)
    time_now h s lh ls =
        elim (same_or_offered (V h s ls)) [
          | inl q ↦ rw q (time_pruned h s lh ls)
          | inr p ↦ (let (i, li, et, q) = p in
              let (u, lu, z) = q in
              let eh : place_of order h ≡ place_of order (head i) = ap (place_of order) z.0 in
              let before = time_pruned (tail i) u (G.joined i li).0 (omega arith) in
              rw z.3 (omega (arith, G.ordered.tails_first i li, M.delay.fits (kind_of b.arcs i) u)))
        ]

    blank_now : (h s : ℕ) → h < length b.nets → s ≤ last_step → (D h s).kept ≡ false → D h s ≡ no_signal
    blank_now h s lh ls kd =
        let e = (V h s ls).not_kept kd in
        e ∙ blank_pruned h s lh ls (rw e at kd)

    apart_now : (h s u : ℕ) → h < length b.nets → place_of order h < k + 1 → s ≤ last_step → u ≤ last_step → (D h s).kept ≡ true → (D h u).kept ≡ true → Covers o (signal_of (D h s) s) (signal_of (D h u) u) → s ≡ u
    apart_now h s u lh lt ls lu ks ku c =
        elim (cases_lt (place_of order h) k) [
          | inl before ↦ (let es = done_same h s ls before in
              let eu = done_same h u lu before in
              R.apart h s u lh before ls lu (rw es at ks) (rw eu at ku) (rw (es, eu) at c))
          | inr ge ↦ (let es = back_same h s ls (omega arith) in
              let eu = back_same h u lu (omega arith) in
              let e : h ≡ n = one_net _ _ order G.ordered h n lh ln (omega arith) in
              H.apart s u ls lu (turn_fits o u lu) (rw (es, e) at ks) (rw (eu, e) at ku) (rw (es, eu, e) at c))
        ]

    past_same : (h s : ℕ) → length b.nets ≤ h → s ≤ last_step → D h s ≡ A h s
    past_same h s le ls =
        none_offered o (FanOutOffers m b.arcs n (length b.arcs) C h s) (C h s) (D h s) (V h s ls) none ∙ other_same h s ls (λ e. absurd (omega arith))
      where
        none : (e : SignalRecord) → ¬ FanOutOffers m b.arcs n (length b.arcs) C h s e
        none e p =
            let (i, lt, t, q) = p in
            let lh = (G.joined i lt).1 in
            let f : h ≡ head i = q.2.0 in
            omega arith

    pub net_done : NetsDone b m o order (k + 1) was D
    net_done =
        record {
          sources = source_now;
          covered = λ h y i u lh c. now_covered h y i u lh (comes_now h y i u lh c);
          apart = apart_now;
          blank = blank_now;
          times = time_now;
          past = λ h s le ls. past_same h s le ls ∙ R.past h s le ls;
        }

    -- the count grows by what the net's fan-out carried
    pub net_counted : {c r : ℕ} → c ≡ carried_where b.arcs A (λ t. ltb (place_of order t) k) (length b.arcs) → r ≡ carried_out b.arcs C n (length b.arcs) → c + r ≡ carried_where b.arcs D (λ t. ltb (place_of order t) (k + 1)) (length b.arcs)
    net_counted {c} {r} ec er = rw (ec, er) (sum_added before here after (length b.arcs) each)
      where
        before : ℕ → ℕ
        before i = cond (ltb (place_of order (tail i)) k) (kept_below A (tail i) step_count) 0

        here : ℕ → ℕ
        here i = cond (eqb (tail i) n) (kept_below C (tail i) step_count) 0

        after : ℕ → ℕ
        after i = cond (ltb (place_of order (tail i)) (k + 1)) (kept_below D (tail i) step_count) 0

        -- the row of a tail before this net stays, and no tail after it counts yet
        each : (i : ℕ) → i < length b.arcs → before i + here i ≡ after i
        each i li =
            let t = tail i in
            elim (cases_order (place_of order t) k) [
              | inl e ↦ (let q : t ≡ n = one_net _ _ order G.ordered t n (G.joined i li).0 ln (e ∙ sym at) in
                  rw (le-ltb (place_of order t) k (omega arith), eq-eqb t n q, lt-ltb (place_of order t) (k + 1) (omega arith)) (zero-add _ ∙ kept_same D C t step_count (λ s ls. sym (back_same t s (omega arith) (omega arith)))))
              | inr (inl lt) ↦
                  rw (lt-ltb (place_of order t) k lt, ne_eqb t n (not_n t lt), lt-ltb (place_of order t) (k + 1) (omega arith)) (add-zero _ ∙ kept_same D A t step_count (λ s ls. sym (done_same t s (omega arith) lt)))
              | inr (inr gt) ↦ (let ne : ¬ (t ≡ n) = λ e. (let f : place_of order t ≡ k = ap (place_of order) e ∙ at in omega arith) in
                  rw (le-ltb (place_of order t) k (omega arith), ne_eqb t n ne, le-ltb (place_of order t) (k + 1) (omega arith)) refl)
            ]
