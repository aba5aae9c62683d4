-- The path that is answered: there is an end with the worst slack, the path to it can be traced, and it has that slack. Assumes nothing.
use Rattle.std.proofs.Common.{◌≡◌, ℕ, ◌*◌, ◌≤◌, true, List, length, take, ℤ, pos, ◌≤ℤ◌, Some, sym, refl, ap, ◌∙◌, subst, arith}
use Rattle.std.proofs.lemmas.Int.{ints}
use Rattle.units.specs.Senses.{Order}
use Rattle.units.specs.Steps.{step_count}
use Rattle.models.specs.Meaning.{Meaning}
use Rattle.paths.specs.declared.blocks.Net.{Net}
use Rattle.paths.specs.declared.blocks.Arc.{Arc}
use Rattle.paths.specs.Blocks.{Block, block, net_of, max_nets}
use Rattle.paths.specs.Orders.{TopologicalOrder}
use Rattle.paths.specs.Signals.{Signal, signal, along, Covers}
use Rattle.paths.specs.Slacks.{limit_at, WorstSlack}
use Rattle.paths.specs.ArcByArc.{Timeable}
use Rattle.paths.proofs.Covering.{covers_prunes}
use Rattle.paths.proofs.Pruning.{arrives_covered, held_arrives}
use Rattle.timing.specs.declared.answers.Answer.{Answer}
use Rattle.timing.specs.declared.answers.SignalRecord.{SignalRecord}
use Rattle.timing.specs.Areas.{record_at, held_by, held_in_area}
use Rattle.timing.specs.Passes.{Forwarded}
use Rattle.timing.specs.Timed.{PathAnswered}
use Rattle.timing.specs.RequiredRows.{as_figure, limit_figure}
use Rattle.timing.specs.WorstPaths.{EndAt, Traceable, ArrivesBy, TracedRun}
use Rattle.timing.proofs.Figures.{limit_is}
use Rattle.timing.proofs.AreaParts.{in_table, table_inside}
use Rattle.timing.proofs.FilledSlacks.{slack_of_both, both_have_slack}
use Rattle.timing.proofs.TracedPaths.{held_is}

-- an end keeps a signal, its net has a limit, and they have the slack
pub end_has : (b : Block) (o : Order) (signals : List SignalRecord) (z : ℤ) (n s : ℕ) → EndAt b.nets o signals z n s → (limit : ℕ) × ((record_at signals n s).kept ≡ true) × (limit_at b o n ≡ Some limit) × (z ≡ o.slack (pos (record_at signals n s).time) (pos limit))
end_has b o signals z n s E =
    let (t, r, et, er, ez) = slack_of_both o (held_by (record_at signals n s)) (limit_figure o (net_of b n)) z E.slack in
    let (limit, el, eq) = limit_is (limit_at b o n) r er in
    let (kept, timed) = held_is (record_at signals n s) t et in
    (limit, kept, el, ez ∙ ap (o.slack (pos t)) eq ∙ ap (λ (u : ℕ). o.slack (pos u) (pos limit)) (sym timed))

-- after the forward pass an end can be traced
pub end_traceable : (b : Block) (m : Meaning) (o : Order) (order : List ℕ) (was is : List SignalRecord) (count : ℕ) (z : ℤ) (end step : ℕ) → length b.nets ≤ max_nets → step_count * length b.nets ≤ length is → TopologicalOrder (length b.nets) b.arcs order → Forwarded b m o was is count → EndAt b.nets o is z end step → Traceable b m o order is end step
end_traceable b m o order was is count z end step few room ordered forwarded E =
    record {
      few = few;
      room = room;
      ordered = ordered;
      sources = forwarded.sources;
      net = E.net;
      step_fits = E.step;
      kept = (end_has b o is z end step E).1;
    }

-- the path traced from an end is complete, and has the slack of the end
pub path_answered : (b : Block) (m : Meaning) (o : Order) (signals : List SignalRecord) (z : ℤ) (end step : ℕ) (path : List ℕ) (a : Answer) → EndAt b.nets o signals z end step → ArrivesBy b m o a.start (take a.arcs path) end (signal (record_at signals end step).time step) → PathAnswered b m o path a z
path_answered b m o signals z end step path a E arrives =
    let (x, launched, run, e) = arrives in
    let (limit, kept, limited, ez) = end_has b o signals z end step E in
    (x, end, limit, record { launched = launched; joined = run; limited = limited }, ez ∙ ap (λ (y : Signal). o.slack (pos y.time) (pos limit)) e)

-- the same of what `trace` answers, for the block whose records they are
pub traced_answered : (nets : List Net) (arcs : List Arc) (m : Meaning) (o : Order) (order : List ℕ) (was is : List SignalRecord) (count : ℕ) (z : ℤ) (end step : ℕ) (path : List ℕ) (a : Answer) → length nets ≤ max_nets → step_count * length nets ≤ length is → TopologicalOrder (length nets) arcs order → Forwarded (block nets arcs) m o was is count → EndAt nets o is z end step → TracedRun arcs is end step a.start (take a.arcs path) → PathAnswered (block nets arcs) m o path a z
traced_answered nets arcs m o order was is count z end step path a few room ordered forwarded E traced =
    path_answered (block nets arcs) m o is z end step path a E (traced nets m o order (end_traceable (block nets arcs) m o order was is count z end step few room ordered forwarded E))

equal : (z w : ℤ) → z ≤ℤ w → w ≤ℤ z → z ≡ w
equal z w h k = omega (arith, ints)

-- the last signal of a worst path is covered by one that its end keeps: this has no more slack, and as it arrives no less
pub worst_has_end : (b : Block) (m : Meaning) (o : Order) (order : List ℕ) (was is : List SignalRecord) (count : ℕ) → Timeable b m o order → Forwarded b m o was is count → (z : ℤ) → WorstSlack b m o (Some z) → (n : ℕ) × (s : ℕ) × EndAt b.nets o is z n s
worst_has_end b m o order was is count timeable forwarded z worst =
    let held = held_in_area (length b.nets) is in
    let prunes = covers_prunes b m o timeable.model timeable.sense in
    let (start, x, run, end, limit, complete, ez) = worst.0 in
    let (s, t, et, covers) = arrives_covered b m o order held timeable (Covers o) prunes forwarded.pruned end (along b m x run) (start, x, run, complete.launched, complete.joined, refl) in
    let (start', x', run', launched, joined, ey) = held_arrives b m o order held timeable (Covers o) prunes forwarded.pruned end s t et in
    let slack = o.slack (pos t) (pos limit) in
    let no_more : slack ≤ℤ z = subst (λ (v : ℤ). slack ≤ℤ v) (sym ez) (timeable.sense.slack_falls (pos t) (pos (along b m x run).time) (pos limit) covers.in_time) in
    let no_less : z ≤ℤ slack = worst.1 slack (start', x', run', end, limit, record { launched = launched; joined = joined; limited = complete.limited }, ap (λ (y : Signal). o.slack (pos y.time) (pos limit)) ey) in
    let (net, step) = table_inside (length b.nets) end s (held_by (record_at is end s)) t et in (
      end,
      s,
      record {
        net = net;
        step = omega arith;
        slack = both_have_slack o (held_by (record_at is end s)) (limit_figure o (net_of b end)) z t (pos limit) (sym (in_table (length b.nets) end s (held_by (record_at is end s)) net step) ∙ et) (ap as_figure complete.limited) (equal z slack no_less no_more);
      },
    )
