-- The passes over a circuit, whose order is topological. Assumes nothing.
use Rattle.std.proofs.Common.{◌≡◌, ℕ, ◌+◌, ◌-◌, ◌*◌, ◌<◌, ◌≤◌, ltb, List, reverse, ◌++◌, length, get_or, take, drop, replicate, ℤ, Some, None, Option, sym, refl, ap, ◌∙◌, subst, arith}
use borrow.Rule.Slice.PartMut.{put_mid}
use Rattle.std.proofs.lemmas.List.{get_or_read, get_or-reverse, length-reverse}
use Rattle.units.specs.Senses.{Order}
use Rattle.units.specs.Senses as senses
use Rattle.units.specs.Steps.{step_count, last_step}
use Rattle.models.specs.Meaning.{Meaning}
use Rattle.models.specs.Meaning as models
use Rattle.paths.specs.Blocks.{max_path, net_of}
use Rattle.paths.specs.Orders.{place_of}
use Rattle.paths.specs.ArcByArc.{Timeable}
use Rattle.paths.specs.Ranges.{latest_time}
use Rattle.timing.specs.declared.answers.SignalRecord.{SignalRecord}
use Rattle.timing.specs.Areas.{record_at, no_signal, figure, entry_of, required_entry, ArcsPast}
use Rattle.timing.specs.Passes.{Forwarded, Backward, SlacksFilled, LeastEntry}
use Rattle.timing.specs.Offers.{Records, AfterOffers, LaunchOffer, FanOutOffers, RowPruned, RowBy, carried_where, carried_out}
use Rattle.timing.specs.RequiredRows.{HeadsReady, RequiredRow}
use Rattle.timing.specs.Timed.{Areas, areas, Timed}
use Rattle.timing.specs.WorstPaths.{EndAt, Traceable, TracedRun}
use Rattle.timing.proofs.Circuits.{OrderedCircuit, circuit_block, circuit_order}
use Rattle.timing.proofs.RecordWrites.{cleared_all}
use Rattle.timing.proofs.ForwardNets.{InOrder, NetsDone, latest_at}
use Rattle.timing.proofs.ForwardNets as nets_pass
use Rattle.timing.proofs.ForwardPass as forward_pass
use Rattle.timing.proofs.BackwardPass.{RequiredFrom}
use Rattle.timing.proofs.BackwardPass as backward_pass
use Rattle.timing.proofs.WholeTiming.{answer}
use Rattle.timing.proofs.WholeTiming as whole_timing

-- a circuit's nets and arcs are timed in its order
pub circuit_in_order : (c : OrderedCircuit) → InOrder (circuit_block c) c.order.now
circuit_in_order c = record { joined = c.joined; times = c.times; ordered = circuit_order c }

-- a net of the forward pass
module _ (w : OrderedCircuit) {m : Meaning} (M : models.Lawful m) {o : Order} (L : senses.Lawful o) {k n : ℕ} {was A B C : Records} (R : NetsDone (circuit_block w) m o w.order.now k was A) (ln : n < length w.nets.now) (at : place_of w.order.now n ≡ k) (S : AfterOffers o (LaunchOffer (net_of (circuit_block w) n).launch n) A B) (H : RowPruned o n step_count B C) where
  -- no time of its row is later when it is carried
  pub row_early : (s : ℕ) → s ≤ last_step → (C n s).time ≤ latest_at (place_of w.order.now n)
  row_early = nets_pass.row_early (circuit_in_order w) M L R ln at S H

  module _ {D : Records} (V : AfterOffers o (FanOutOffers m w.arcs.now n (length w.arcs.now) C) C D) where
    -- it is done
    pub net_done : NetsDone (circuit_block w) m o w.order.now (k + 1) was D
    net_done = nets_pass.net_done (circuit_in_order w) M L R ln at S H V

    -- and what its fan-out carried is counted
    pub net_counted : {c r : ℕ} → c ≡ carried_where w.arcs.now A (λ t. ltb (place_of w.order.now t) k) (length w.arcs.now) → r ≡ carried_out w.arcs.now C n (length w.arcs.now) → c + r ≡ carried_where w.arcs.now D (λ t. ltb (place_of w.order.now t) (k + 1)) (length w.arcs.now)
    net_counted ec er = nets_pass.net_counted (circuit_in_order w) M L R ln at S H V ec er

-- the first p nets of the circuit's order are done, and carried is what they carried
pub record PassAt (w : OrderedCircuit) (m : Meaning) (o : Order) (p : ℕ) (was is : List SignalRecord) (count : ℕ) : Type 0 where
  pub done : NetsDone (circuit_block w) m o w.order.now p (record_at was) (record_at is)
  pub counted : count ≡ carried_where w.arcs.now (record_at is) (λ t. ltb (place_of w.order.now t) p) (length w.arcs.now)

-- so they are of its block and order
pass_of : {w : OrderedCircuit} {m : Meaning} {o : Order} {p : ℕ} {was is : List SignalRecord} {count : ℕ} → PassAt w m o p was is count → forward_pass.PassAt (circuit_block w) m o w.order.now p was is count
pass_of W = record { done = W.done; counted = W.counted }

-- before the first net the records of all nets hold no signal, and the others are as they were
pub pass_begins : (w : OrderedCircuit) (m : Meaning) (o : Order) (was filled : List SignalRecord) → step_count * length w.nets.now ≤ length was → filled ≡ replicate (length (take (step_count * length w.nets.now) was)) no_signal → PassAt w m o 0 was (filled ++ drop (step_count * length w.nets.now) was) 0
pass_begins w m o was filled room blank =
    let W = forward_pass.pass_starts (circuit_block w) m o w.order.now was (filled ++ drop (step_count * length w.nets.now) was) (cleared_all (step_count * length w.nets.now) was filled room blank) in
    record { done = W.done; counted = W.counted }

-- the count stays in its range
pub count_fits : {w : OrderedCircuit} {m : Meaning} {o : Order} {p : ℕ} {was is : List SignalRecord} {count : ℕ} → PassAt w m o p was is count → count ≤ step_count * length w.arcs.now
count_fits {w} {m} {o} {p} {was} {is} {count} W = forward_pass.count_fits (circuit_block w) m o w.order.now p was is count (pass_of W)

module _ {w : OrderedCircuit} {m : Meaning} (M : models.Lawful m) {o : Order} (L : senses.Lawful o) where
  module _ {p : ℕ} {was is : List SignalRecord} {count : ℕ} (W : PassAt w m o p was is count) (lt : p < length w.order.now) where
    abbrev net : ℕ
    net = get_or w.order.now p 0

    module _ (launched pruned : List SignalRecord) (S : AfterOffers o (LaunchOffer (net_of (circuit_block w) net).launch net) (record_at is) (record_at launched)) (H : RowPruned o net step_count (record_at launched) (record_at pruned)) where
      -- the times of the row that is carried are in range
      pub row_in_range : RowBy (record_at pruned) net latest_time
      row_in_range = forward_pass.row_in_range (circuit_in_order w) M L (pass_of W) lt launched pruned S H w.few.0

      -- one net more
      pub pass_goes_on : (next : List SignalRecord) {r : ℕ} → AfterOffers o (FanOutOffers m w.arcs.now net (length w.arcs.now) (record_at pruned)) (record_at pruned) (record_at next) → r ≡ carried_out w.arcs.now (record_at pruned) net (length w.arcs.now) → PassAt w m o (p + 1) was next (count + r)
      pass_goes_on next V counted =
          let more = forward_pass.pass_goes_on (circuit_in_order w) M L (pass_of W) lt launched pruned S H next V counted in
          record { done = more.done; counted = more.counted }

  module _ {p : ℕ} (all : p ≡ length w.nets.now) {was is : List SignalRecord} {count : ℕ} (W : PassAt w m o p was is count) where
    -- after the last net
    pub pass_ends : Forwarded (circuit_block w) m o was is count
    pass_ends = forward_pass.pass_ends (circuit_in_order w) M L all (pass_of W) w.few.0 was (λ i h. refl)

-- the backward pass over the order turned round
module _ (circuit : OrderedCircuit) (m : Meaning) (law : models.Lawful m) (o : Order) where
  abbrev order : List ℕ
  order = circuit.order.now

  -- a turn of the loop, when `count` nets from the order's end on have their rows
  module _ (count n : ℕ) (was mid : List ℤ) (lt : count < length (reverse order)) (is : n ≡ get_or (reverse order) count n) (done : RequiredFrom (circuit_block circuit) m o order (length order - count) was mid) where
    abbrev p : ℕ
    p = length order - count

    some_left : 0 < p
    some_left = omega (arith, length-reverse order)

    turned : get_or order (p - 1) 0 ≡ n
    turned =
        let at : p - 1 ≡ length order - 1 - count = omega arith in
        ap (λ (k : ℕ). get_or order k 0) at
        ∙ sym (get_or_read order (length order - 1 - count) n (omega (arith, length-reverse order)) (is ∙ get_or-reverse order count n (omega (arith, length-reverse order))) 0)

    -- the rows of the net's heads are ready
    pub heads_ready : step_count * length circuit.nets.now ≤ length mid → HeadsReady circuit.arcs.now n mid
    heads_ready room =
        subst (λ (k : ℕ). HeadsReady circuit.arcs.now k mid) turned
        (backward_pass.heads_ready (circuit_block circuit) m law o order circuit.joined (circuit_order circuit) p was mid circuit.few.0 some_left (omega arith) room done)

    -- and the net gets its row
    pub required_turn : (k count' : ℕ) (row part : List ℤ) → step_count * length circuit.nets.now ≤ length mid → k ≡ step_count → count' ≡ count + 1 → length row ≡ step_count → part ≡ row → RequiredRow (circuit_block circuit) m o (required_entry mid) n row → RequiredFrom (circuit_block circuit) m o order (length order - count') was (put_mid (step_count * n) k mid part)
    required_turn k count' row part room part-long counted long same required =
        let next : p - 1 ≡ length order - count' = omega arith in
        subst (λ (q : ℕ). RequiredFrom (circuit_block circuit) m o order q was (put_mid (step_count * n) k mid part)) next
        (subst (λ (v : ℕ). RequiredFrom (circuit_block circuit) m o order (p - 1) was (put_mid (step_count * v) k mid part)) turned
        (backward_pass.required_turn (circuit_block circuit) m law o order circuit.joined (circuit_order circuit) p k was mid row part circuit.lates circuit.earlies some_left (omega arith) room part-long long same
        (subst (λ (v : ℕ). RequiredRow (circuit_block circuit) m o (required_entry mid) v row) (sym turned) required) done))

  -- after the loop every net has its row
  pub backward : (p : ℕ) (was is : List ℤ) → p ≤ 0 → RequiredFrom (circuit_block circuit) m o order p was is → Backward (circuit_block circuit) m o was is
  backward p was is h done = backward_pass.backward (circuit_block circuit) m law o order circuit.joined (circuit_order circuit) p was is circuit.few.0 h done

-- what a circuit's timing has once the slacks are filled in, and the worst of them
pub record Filled (c : OrderedCircuit) (m : Meaning) (o : Order) (was : Areas) (signals : List SignalRecord) (required slacks : List ℤ) (carried : ℕ) (worst : Option ℤ) : Type 0 where
  pub timeable : Timeable (circuit_block c) m o c.order.now
  pub forward : Forwarded (circuit_block c) m o was.signals signals carried
  pub backward : Backward (circuit_block c) m o was.required required
  pub filled : SlacksFilled o (length c.nets.now) signals required was.slacks slacks
  pub least : LeastEntry (length c.nets.now) slacks worst

module _ {c : OrderedCircuit} {m : Meaning} {o : Order} {was : Areas} {signals : List SignalRecord} {required slacks : List ℤ} {carried : ℕ} {worst : Option ℤ} (F : Filled c m o was signals required slacks carried worst) where
  -- so has its block
  whole : whole_timing.Filled c.nets.now c.arcs.now m o c.order.now was signals required slacks carried worst
  whole = record { timeable = F.timeable; forward = F.forward; backward = F.backward; filled = F.filled; least = F.least }

  -- the entry of the worst slack stands for it
  pub stands : (r : ℤ) → r ≡ entry_of worst → figure r ≡ worst
  stands = whole_timing.stands whole

  -- without a complete path
  pub timed_none : (r : ℤ) → r ≡ entry_of worst → worst ≡ None → Timed (circuit_block c) m o was (areas signals required slacks was.path) (answer r 0 0 carried)
  timed_none = whole_timing.timed_none whole

  module _ (z : ℤ) (some : worst ≡ Some z) where
    -- a net and a step at which a path of the worst slack ends
    pub has_end : (n : ℕ) × (s : ℕ) × EndAt c.nets.now o signals z n s
    has_end = whole_timing.has_end whole z some

    module _ (room : step_count * length c.nets.now ≤ length signals) (end step : ℕ) (E : EndAt c.nets.now o signals z end step) where
      -- from which the path is traced
      pub traceable : Traceable (circuit_block c) m o c.order.now signals end step
      traceable = whole_timing.traceable whole z c.few.0 room end step E

      -- and answered
      pub timed_path : (r : ℤ) (start count : ℕ) (path : List ℕ) → r ≡ entry_of worst → TracedRun c.arcs.now signals end step start (take count path) → count ≤ max_path → ArcsPast count was.path path → Timed (circuit_block c) m o was (areas signals required slacks path) (answer r start count carried)
      timed_path = whole_timing.timed_path whole z some c.few.0 room end step E
