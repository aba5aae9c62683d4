-- What going back from record to record keeps, and the path turned round. Assumes nothing.
use Rattle.std.proofs.Common.{◌≡◌, ℕ, ◌+◌, ◌-◌, ◌<◌, ◌≤◌, Bool, true, false, cond, List, [], ◌∷◌, ◌++◌, reverse, length, get_or, take, drop, set, Some, None, sym, refl, ap, ◌∙◌, subst, inl, inr, arith}
use Rattle.std.proofs.lemmas.List.{take_more_set, reverse-append, length-reverse, length-take-le, get_or-set_other, take_at, get_or-append_right, get_or-drop}
use Rattle.units.specs.Senses.{Order}
use Rattle.units.specs.Steps.{last_step}
use Rattle.models.specs.Meaning.{Meaning}
use Rattle.paths.specs.declared.blocks.Net.{Net}
use Rattle.paths.specs.declared.blocks.Arc.{Arc}
use Rattle.paths.specs.Blocks.{Block, block, tail_of, head_of, max_path, max_arcs}
use Rattle.paths.specs.Runs.{IsArc, Run}
use Rattle.paths.specs.Orders.{place_of}
use Rattle.paths.specs.Signals.{Signal, signal, along, carried}
use Rattle.std.proofs.lemmas.Option.{none-some, same_Some}
use Rattle.timing.specs.declared.answers.SignalRecord.{SignalRecord}
use Rattle.timing.specs.Areas.{place, record_at, held_by, held_in_area, ArcsPast}
use Rattle.timing.specs.Passes.{CameFrom, launched_mark}
use Rattle.timing.specs.WorstPaths.{Traceable, SomeTraceable, ArrivesBy, TracedRun}
use Rattle.timing.proofs.HeldSignals.{held_is_kept}

-- a record that holds a time is kept, with that time
pub held_is : (e : SignalRecord) (t : ℕ) → held_by e ≡ Some t → (e.kept ≡ true) × (e.time ≡ t)
held_is e t = go e.kept refl
  where
    go : (v : Bool) → e.kept ≡ v → cond v (Some e.time) None ≡ Some t → (e.kept ≡ true) × (e.time ≡ t)
    go true q f = (q, same_Some e.time t f)
    go false q f = absurd (none-some t f)

-- the arcs taken so far, turned round, lead from the net to the end and carry the signal of the net's record there
pub record Tracing (b : Block) (m : Meaning) (order : List ℕ) (signals : List SignalRecord) (end : ℕ) (y : Signal) (path : List ℕ) (n s count : ℕ) (e : SignalRecord) : Type 0 where
  pub net : n < length b.nets
  pub step : s ≤ last_step
  pub recorded : e ≡ record_at signals n s
  pub kept : e.kept ≡ true
  pub before : count + place_of order n ≤ place_of order end
  pub joined : Run b n (reverse (take count path)) end
  pub carried_on : y ≡ along b m (signal e.time s) (reverse (take count path))

-- the arc that a record names, its tail, and the signal there
pub record Back (b : Block) (m : Meaning) (order : List ℕ) (signals : List SignalRecord) (n s : ℕ) (e : SignalRecord) : Type 0 where
  pub time : ℕ
  pub arc : IsArc b e.arc
  pub head : head_of b.arcs e.arc ≡ n
  pub tail : tail_of b.arcs e.arc < length b.nets
  pub step : e.step ≤ last_step
  pub kept : (record_at signals (tail_of b.arcs e.arc) e.step).kept ≡ true
  pub timed : (record_at signals (tail_of b.arcs e.arc) e.step).time ≡ time
  pub carried_over : signal e.time s ≡ carried b m e.arc (signal time e.step)
  pub before : place_of order (tail_of b.arcs e.arc) < place_of order n

-- the arcs turned round, with the one written last in front
one_more : (path : List ℕ) (count a : ℕ) → count < length path → reverse (take (count + 1) (set path count a)) ≡ a ∷ reverse (take count path)
one_more path count a h = ap reverse (take_more_set path count a h) ∙ reverse-append (take count path) (a ∷ [])

module _ (b : Block) (m : Meaning) (o : Order) (order : List ℕ) (signals : List SignalRecord) (end step : ℕ) (T : Traceable b m o order signals end step) where
  -- the area holds the signal at the net
  abbrev Has : ℕ → Signal → Type 0
  Has k x = held_in_area (length b.nets) signals k x.step ≡ Some x.time

  -- the signal at the end
  abbrev last : Signal
  last = signal (record_at signals end step).time step

  -- the end stands at a place, so a run to it is short
  pub few_back : (path : List ℕ) (n s count : ℕ) (e : SignalRecord) → Tracing b m order signals end last path n s count e → count ≤ max_path
  few_back path n s count e I =
      let placed = T.ordered.whole end T.net in
      omega (arith, placed, T.ordered.long, T.few, I.before)

  -- where the signal of the record came from
  source : (path : List ℕ) (n s count : ℕ) (e : SignalRecord) → Tracing b m order signals end last path n s count e → CameFrom b m o Has n (signal e.time s) e.arc e.step
  source path n s count e I =
      subst (λ (x : SignalRecord). CameFrom b m o Has n (signal x.time s) x.arc x.step) (sym I.recorded)
      (T.sources n s I.net I.step (sym (ap (λ (x : SignalRecord). x.kept) I.recorded) ∙ I.kept))

  -- a record that is no launch has an arc to go back over
  pub back : (path : List ℕ) (n s count : ℕ) (e : SignalRecord) → ¬ (e.arc ≡ launched_mark) → Tracing b m order signals end last path n s count e → Back b m order signals n s e
  back path n s count e ne I = go (source path n s count e I)
    where
      go : CameFrom b m o Has n (signal e.time s) e.arc e.step → Back b m order signals n s e
      go (inl c) = absurd (ne c.0)
      go (inr c) =
          let (t, is-arc, head, has, over) = c in
          let (net, fits, kept, timed) = held_is_kept (length b.nets) signals (tail_of b.arcs e.arc) e.step t has in
          record {
            time = t;
            arc = is-arc;
            head = head;
            tail = net;
            step = fits;
            kept = kept;
            timed = timed;
            carried_over = over;
            before = subst (λ (v : ℕ). place_of order (tail_of b.arcs e.arc) < place_of order v) head (T.ordered.tails_first e.arc is-arc);
          }

  -- there is room for one more arc, and the record of its tail stands in the area
  pub tracing_room : (path : List ℕ) (n s count : ℕ) (e : SignalRecord) → ¬ (e.arc ≡ launched_mark) → Tracing b m order signals end last path n s count e → (count < max_path) × IsArc b e.arc × (place (tail_of b.arcs e.arc) e.step < length signals)
  tracing_room path n s count e ne I =
      let B = back path n s count e ne I in
      let placed = T.ordered.whole end T.net in
      (omega (arith, placed, T.ordered.long, T.few, I.before, B.before), B.arc, omega (arith, T.room, B.tail, B.step))

  -- one arc more
  pub tracing_on : (path : List ℕ) (n s count : ℕ) (e e' : SignalRecord) → count < length path → ¬ (e.arc ≡ launched_mark) → e' ≡ record_at signals (tail_of b.arcs e.arc) e.step → Tracing b m order signals end last path n s count e → Tracing b m order signals end last (set path count e.arc) (tail_of b.arcs e.arc) e.step (count + 1) e'
  tracing_on path n s count e e' lt ne recorded I =
      let B = back path n s count e ne I in
      let was = reverse (take count path) in
      let same = one_more path count e.arc lt in
      let timed : e'.time ≡ B.time = ap (λ (x : SignalRecord). x.time) recorded ∙ B.timed in
      let joined : Run b (tail_of b.arcs e.arc) (e.arc ∷ was) end = (B.arc, refl, subst (λ (v : ℕ). Run b v was end) (sym B.head) I.joined) in
      record {
        net = B.tail;
        step = B.step;
        recorded = recorded;
        kept = ap (λ (x : SignalRecord). x.kept) recorded ∙ B.kept;
        before = omega (arith, I.before, B.before);
        joined = subst (λ (is : List ℕ). Run b (tail_of b.arcs e.arc) is end) (sym same) joined;
        carried_on =
            I.carried_on ∙ ap (λ (x : Signal). along b m x was) B.carried_over
            ∙ ap (λ (v : ℕ). along b m (signal v e.step) (e.arc ∷ was)) (sym timed)
            ∙ ap (along b m (signal e'.time e.step)) (sym same);
      }

  -- at a launch the run is whole
  pub tracing_ends : (path : List ℕ) (n s count : ℕ) (e : SignalRecord) → length b.arcs ≤ max_arcs → e.arc ≡ launched_mark → Tracing b m order signals end last path n s count e → ArrivesBy b m o n (reverse (take count path)) end last
  tracing_ends path n s count e few mark I = go (source path n s count e I)
    where
      go : CameFrom b m o Has n (signal e.time s) e.arc e.step → ArrivesBy b m o n (reverse (take count path)) end last
      go (inl c) = (signal e.time s, c.2, I.joined, I.carried_on)
      go (inr c) = let is-arc = c.1 in absurd (omega arith)

-- the same for all nets, models, senses and orders for which the records can be traced
abbrev pub TracingEach : List Arc → List SignalRecord → ℕ → ℕ → List ℕ → ℕ → ℕ → SignalRecord → Type 0
TracingEach arcs signals end step path n count e =
    (nets : List Net) (m : Meaning) (o : Order) (order : List ℕ) → Traceable (block nets arcs) m o order signals end step
    → (s : ℕ) × Tracing (block nets arcs) m order signals end (signal (record_at signals end step).time step) path n s count e

module _ (arcs : List Arc) (signals : List SignalRecord) (end step : ℕ) where
  pub each_few : (path : List ℕ) (n count : ℕ) (e : SignalRecord) → SomeTraceable arcs signals end step → TracingEach arcs signals end step path n count e → count ≤ max_path
  each_few path n count e some I =
      let (nets, m, o, order, T) = some in
      let (s, i) = I nets m o order T in
      few_back (block nets arcs) m o order signals end step T path n s count e i

  pub each_room : (path : List ℕ) (n count : ℕ) (e : SignalRecord) → ¬ (e.arc ≡ launched_mark) → SomeTraceable arcs signals end step → TracingEach arcs signals end step path n count e → (count < max_path) × (e.arc < length arcs) × (place (tail_of arcs e.arc) e.step < length signals)
  each_room path n count e ne some I =
      let (nets, m, o, order, T) = some in
      let (s, i) = I nets m o order T in
      tracing_room (block nets arcs) m o order signals end step T path n s count e ne i

  pub each_on : (path : List ℕ) (n count : ℕ) (e : SignalRecord) → count < length path → ¬ (e.arc ≡ launched_mark) → TracingEach arcs signals end step path n count e → TracingEach arcs signals end step (set path count e.arc) (tail_of arcs e.arc) (count + 1) (record_at signals (tail_of arcs e.arc) e.step)
  each_on path n count e lt ne I =
      λ nets m o order T.
      let (s, i) = I nets m o order T in
      (e.step, tracing_on (block nets arcs) m o order signals end step T path n s count e _ lt ne refl i)

  pub each_ends : (path : List ℕ) (n count : ℕ) (e : SignalRecord) → length arcs ≤ max_arcs → e.arc ≡ launched_mark → TracingEach arcs signals end step path n count e → TracedRun arcs signals end step n (reverse (take count path))
  each_ends path n count e few mark I =
      λ nets m o order T.
      let (s, i) = I nets m o order T in
      tracing_ends (block nets arcs) m o order signals end step T path n s count e few mark i

-- entries past the path stay as one more arc is written
pub past_on : (was path : List ℕ) (count a : ℕ) → ArcsPast count was path → ArcsPast (count + 1) was (set path count a)
past_on was path count a past i h = get_or-set_other path count i a 0 (λ q. absurd (apart q)) ∙ past i (omega arith)
  where
    apart : i ≡ count → ⊥
    apart q = omega arith

-- the front of a path, turned round in place
module _ (path front : List ℕ) (count : ℕ) (room : count ≤ length path) (e : front ≡ reverse (take count path)) where
  long : length front ≡ count
  long = ap length e ∙ length-reverse (take count path) ∙ length-take-le count path room

  pub turned : take count (front ++ drop count path) ≡ reverse (take count path)
  turned = take_at front (drop count path) count long ∙ e

  -- past the front the path stays
  pub past_turned : (i : ℕ) → count ≤ i → get_or (front ++ drop count path) i 0 ≡ get_or path i 0
  past_turned i h = get_or-append_right front (drop count path) count i 0 long h ∙ get_or-drop count path (i - count) 0 ∙ ap (λ (k : ℕ). get_or path k 0) (over i h)
    where
      over : (i : ℕ) → count ≤ i → count + (i - count) ≡ i
      over i h = omega arith
