-- What the passes leave, arc by arc and net by net, is what a timing answers over all runs and paths. Assumes nothing.
use Rattle.std.proofs.Common.{◌≡◌, ℕ, ◌*◌, ◌<◌, ◌≤◌, Bool, true, false, cond, ltb, List, length, ℤ, Some, None, Option, sym, refl, ap, ◌∙◌, subst, inl, inr, arith}
use Rattle.std.proofs.lemmas.Bool.{lt-ltb, ltb-true, ltb-false}
use Rattle.units.specs.Senses.{Order}
use Rattle.units.specs.Steps.{step_count, last_step}
use Rattle.models.specs.Meaning.{Meaning}
use Rattle.paths.specs.Blocks.{Block, tail_of, max_path}
use Rattle.paths.specs.Signals.{Signal, signal, KeptSignal}
use Rattle.paths.specs.Slacks.{Least, RequiredTime, NetSlack, WorstSlack}
use Rattle.paths.specs.CarriedCounts.{CarriedCount}
use Rattle.paths.specs.ArcByArc.{SignalTable, Timeable, SlackHeld}
use Rattle.paths.proofs.Pruning.{pruning_loses_nothing}
use Rattle.paths.proofs.CountedRows.{rows_at_most, counted_by_rows}
use Rattle.paths.proofs.RequiredTimes.{required_times_recurse}
use Rattle.paths.proofs.NetSlacks.{slack_meets_at_nets, worst_of_nets}
use Rattle.std.proofs.lemmas.Option.{none-some}
use Rattle.timing.specs.declared.answers.Answer.{Answer}
use Rattle.timing.specs.declared.answers.SignalRecord.{SignalRecord}
use Rattle.timing.specs.Areas.{record_at, held_by, held_in_area, figure, required_entry, required_in_area, slack_entry, slack_in_area, ArcsPast, none_value}
use Rattle.timing.specs.Passes.{CameFrom, Forwarded, Backward, SlacksFilled, LeastEntry}
use Rattle.timing.specs.Timed.{SignalRecorded, PathAnswered, Areas, Timed}
use Rattle.timing.proofs.AreaParts.{in_table, table_inside}
use Rattle.timing.proofs.LeastFigures.{least_same}

-- a signal that came from one of the signals of the tail, where these are of another kind also
came_from_also : (b : Block) (m : Meaning) (o : Order) (Has Also : ℕ → Signal → Type 0) → ((k : ℕ) (x : Signal) → Has k x → Also k x) → (n : ℕ) (y : Signal) (arc step : ℕ) → CameFrom b m o Has n y arc step → CameFrom b m o Also n y arc step
came_from_also b m o Has Also into n y arc step (inl launched) = inl launched
came_from_also b m o Has Also into n y arc step (inr (t, is-arc, at_head, has, over)) = inr (t, is-arc, at_head, into (tail_of b.arcs arc) (signal t step) has, over)

-- what the forward pass leaves
module _ (b : Block) (m : Meaning) (o : Order) (order : List ℕ) (timeable : Timeable b m o order) (was is : List SignalRecord) (count : ℕ) (forwarded : Forwarded b m o was is count) where
  abbrev held : SignalTable
  held = held_in_area (length b.nets) is

  -- the area holds the signals that are kept over all runs
  pub held_kept : (n s t : ℕ) → held n s ≡ Some t → KeptSignal b m o n (signal t s)
  held_kept n s t e = (pruning_loses_nothing b m o order held timeable forwarded.pruned n s t).0 e

  pub kept_held : (n s t : ℕ) → KeptSignal b m o n (signal t s) → held n s ≡ Some t
  kept_held n s t kept = (pruning_loses_nothing b m o order held timeable forwarded.pruned n s t).1 kept

  record_held : (n s : ℕ) → n < length b.nets → s ≤ last_step → (v : Bool) → (record_at is n s).kept ≡ v → held n s ≡ cond v (Some (record_at is n s).time) None
  record_held n s h k v e = in_table (length b.nets) n s (held_by (record_at is n s)) h (omega arith) ∙ ap (λ (x : Bool). cond x (Some (record_at is n s).time) None) e

  pub signals_recorded : (n s : ℕ) → n < length b.nets → s ≤ last_step → SignalRecorded b m o n s (record_at is n s)
  signals_recorded n s h k = record {
    kept = λ e. (
      held_kept n s (record_at is n s).time (record_held n s h k true e),
      came_from_also b m o (λ i y. held i y.step ≡ Some y.time) (KeptSignal b m o) (λ i y. held_kept i y.step y.time) n (signal (record_at is n s).time s) (record_at is n s).arc (record_at is n s).step (forwarded.sources n s h k e),
    );
    not_kept = λ e. ((λ t kept. none-some t (sym (record_held n s h k false e) ∙ kept_held n s t kept)), forwarded.blank n s h k e);
  }

  pub carried_counted : CarriedCount b m o count
  carried_counted = subst (CarriedCount b m o) (sym forwarded.counted) (counted_by_rows b m o order held timeable forwarded.pruned)

  pub carried_at_most : count ≤ step_count * length b.arcs
  carried_at_most = subst (λ (c : ℕ). c ≤ step_count * length b.arcs) (sym forwarded.counted) (rows_at_most b held)

-- what the backward pass leaves
module _ (b : Block) (m : Meaning) (o : Order) (order : List ℕ) (timeable : Timeable b m o order) (was is : List ℤ) (backward : Backward b m o was is) where
  pub required_recorded : (n s : ℕ) → n < length b.nets → s ≤ last_step → RequiredTime b m o n s (required_entry is n s)
  required_recorded n s h k =
      subst (RequiredTime b m o n s) (in_table (length b.nets) n s (required_entry is n s) h (omega arith))
      (required_times_recurse b m o order (required_in_area (length b.nets) is) timeable backward.by_nets n s k)

-- what is left once the slacks are filled in
module _ (b : Block) (m : Meaning) (o : Order) (order : List ℕ) (timeable : Timeable b m o order) (were signals : List SignalRecord) (count : ℕ) (forwarded : Forwarded b m o were signals count) (was required : List ℤ) (backward : Backward b m o was required)
    (old slacks : List ℤ) (filled : SlacksFilled o (length b.nets) signals required old slacks) where
  abbrev Held : ℕ → ℤ → Type 0
  Held n z = SlackHeld o (held_in_area (length b.nets) signals) (required_in_area (length b.nets) required) n z

  -- past the nets nothing is held
  slack_each : (n : ℕ) → Least (Held n) (slack_in_area (length b.nets) slacks n)
  slack_each n = go (ltb n (length b.nets)) refl
    where
      go : (v : Bool) → ltb n (length b.nets) ≡ v → Least (Held n) (cond v (slack_entry slacks n) None)
      go true e = filled.each n (ltb-true n (length b.nets) e)
      go false e = λ z (s, t, r, et, er, ez). (
          let h = (table_inside (length b.nets) n s (held_by (record_at signals n s)) t et).0 in
          let past = ltb-false n (length b.nets) e in
          omega arith)

  slack_all : (n : ℕ) → NetSlack b m o n (slack_in_area (length b.nets) slacks n)
  slack_all n = slack_meets_at_nets b m o order (held_in_area (length b.nets) signals) (required_in_area (length b.nets) required) timeable forwarded.pruned backward.by_nets n (slack_in_area (length b.nets) slacks n) (slack_each n)

  pub slacks_recorded : (n : ℕ) → n < length b.nets → NetSlack b m o n (slack_entry slacks n)
  slacks_recorded n h = subst (NetSlack b m o n) (ap (λ (v : Bool). cond v (slack_entry slacks n) None) (lt-ltb n (length b.nets) h)) (slack_all n)

  abbrev OfEntry : ℤ → Type 0
  OfEntry a = (n : ℕ) × (n < length b.nets) × (slack_entry slacks n ≡ Some a)

  abbrev OfNet : ℤ → Type 0
  OfNet a = (n : ℕ) × (slack_in_area (length b.nets) slacks n ≡ Some a)

  entry_net : (z : ℤ) → OfEntry z → OfNet z
  entry_net z (n, h, e) = (n, ap (λ (v : Bool). cond v (slack_entry slacks n) None) (lt-ltb n (length b.nets) h) ∙ e)

  net_entry : (z : ℤ) → OfNet z → OfEntry z
  net_entry z (n, e) = go (ltb n (length b.nets)) refl e
    where
      go : (v : Bool) → ltb n (length b.nets) ≡ v → cond v (slack_entry slacks n) None ≡ Some z → OfEntry z
      go true q e = (n, ltb-true n (length b.nets) q, e)
      go false q e = absurd (none-some z e)

  pub worst_recorded : (z : Option ℤ) → LeastEntry (length b.nets) slacks z → WorstSlack b m o z
  worst_recorded z least = worst_of_nets b m o (slack_in_area (length b.nets) slacks) slack_all z (least_same OfEntry OfNet entry_net net_entry z least)

-- the parts put together, with what is answered of the path
pub timed : (b : Block) (m : Meaning) (o : Order) (order : List ℕ) (was is : Areas) (a : Answer)
    → Timeable b m o order
    → Forwarded b m o was.signals is.signals a.carried
    → Backward b m o was.required is.required
    → SlacksFilled o (length b.nets) is.signals is.required was.slacks is.slacks
    → LeastEntry (length b.nets) is.slacks (figure a.worst_slack)
    → ((z : ℤ) → figure a.worst_slack ≡ Some z → PathAnswered b m o is.path a z)
    → a.arcs ≤ max_path
    → (figure a.worst_slack ≡ None → (a.worst_slack ≡ none_value) × (a.start ≡ 0) × (a.arcs ≡ 0))
    → ArcsPast a.arcs was.path is.path
    → Timed b m o was is a
timed b m o order was is a timeable forwarded backward filled least path short none past = record {
  signals = signals_recorded b m o order timeable was.signals is.signals a.carried forwarded;
  required_times = required_recorded b m o order timeable was.required is.required backward;
  net_slacks = slacks_recorded b m o order timeable was.signals is.signals a.carried forwarded was.required is.required backward was.slacks is.slacks filled;
  worst_slack = worst_recorded b m o order timeable was.signals is.signals a.carried forwarded was.required is.required backward was.slacks is.slacks filled (figure a.worst_slack) least;
  path = path;
  path_length = short;
  none = none;
  carried_count = carried_counted b m o order timeable was.signals is.signals a.carried forwarded;
  carried_most = carried_at_most b m o order timeable was.signals is.signals a.carried forwarded;
  signals_past = forwarded.past;
  required_past = backward.past;
  slacks_past = filled.past;
  path_past = past;
}
