-- The slacks that are filled in net by net. Assumes nothing.
use Rattle.std.proofs.Common.{◌≡◌, ℕ, ◌+◌, ◌<◌, ◌≤◌, ◌⊎◌, List, length, set, take, ℤ, pos, ◌≤ℤ◌, Some, None, Option, get_or, sym, refl, ap, ◌∙◌, subst, arith, w32, w64, to_z, of_z}
use native.Mathlib.Decide.{ℕ_discrete}
use Rattle.std.specs.Option.{MatchOption, IsSomeAnd}
use Rattle.std.proofs.lemmas.Int.{to_z-of_z}
use Rattle.std.proofs.lemmas.List.{get_or-set_same, get_or-set_other, get_or-take, length-take-le}
use Rattle.units.specs.Senses.{Order, late_order, early_order}
use Rattle.units.specs.Steps.{step_count, last_step}
use Rattle.paths.specs.Slacks.{Least}
use Rattle.paths.specs.ArcByArc.{SlackHeld}
use Rattle.paths.specs.Ranges.{latest_time, RequiredFits}
use Rattle.paths.proofs.Firsts.{first_is}
use Rattle.std.proofs.lemmas.Option.{none-some, same_Some}
use Rattle.timing.specs.declared.answers.SignalRecord.{SignalRecord}
use Rattle.timing.specs.Areas.{place, record_at, held_by, held_in_area, figure, required_entry, required_in_area, slack_entry, entry_of, FiguresPast}
use Rattle.timing.specs.Passes.{SlacksFilled, LeastEntry}
use Rattle.timing.specs.SlackFigures.{slack_figure, slack_of_entries, LeastOfRow}
use Rattle.timing.proofs.AreaParts.{in_table, table_inside}
use Rattle.timing.proofs.Figures.{figure_above}
use Rattle.timing.proofs.LeastFigures.{FigureBelow, lesser_of, least_same, least_more}
use Rattle.timing.proofs.SlackRanges.{WithinWidest, slack_within, within_fits, within_fits_wide, within_above}
use Rattle.timing.proofs.TracedPaths.{held_is}

-- a slack is that of a time and a required time
pub slack_of_both : (o : Order) (held : Option ℕ) (required : Option ℤ) (z : ℤ) → slack_figure o held required ≡ Some z → (t : ℕ) × (r : ℤ) × (held ≡ Some t) × (required ≡ Some r) × (z ≡ o.slack (pos t) r)
slack_of_both o None required z e = absurd (none-some z e)
slack_of_both o (Some t) None z e = absurd (none-some z e)
slack_of_both o (Some t) (Some r) z e = (t, r, refl, refl, sym (same_Some (o.slack (pos t) r) z e))

pub both_have_slack : (o : Order) (held : Option ℕ) (required : Option ℤ) (z : ℤ) (t : ℕ) (r : ℤ) → held ≡ Some t → required ≡ Some r → z ≡ o.slack (pos t) r → slack_figure o held required ≡ Some z
both_have_slack o held required z t r et er ez = ap (λ (x : Option ℕ). slack_figure o x required) et ∙ ap (λ (x : Option ℤ). slack_figure o (Some t) x) er ∙ ap Some (sym ez)

-- the least slack of a net lies within the range of slacks
pub least_within : (o : Order) → (o ≡ late_order) ⊎ (o ≡ early_order) → (signals : List SignalRecord) (required : List ℤ) (n : ℕ) → ((s : ℕ) → s ≤ last_step → (record_at signals n s).time ≤ latest_time) → ((s : ℕ) (r : ℤ) → s ≤ last_step → required_entry required n s ≡ Some r → RequiredFits r) → (x : Option ℤ) → LeastOfRow o signals required n x → (z : ℤ) → x ≡ Some z → WithinWidest z
least_within o sense signals required n times range x least z e =
    let (s, lt, is) = first_is ◌≤ℤ◌ (λ a. (s : ℕ) × (s < step_count) × (slack_of_entries o signals required n s ≡ Some a)) x least z e in
    let (t, r, et, er, ez) = slack_of_both o (held_by (record_at signals n s)) (required_entry required n s) z is in
    let (kept, timed) = held_is (record_at signals n s) t et in
    let by : t ≤ latest_time = omega (arith, times s (omega arith), timed) in
    subst WithinWidest (sym ez) (slack_within o sense t r by (range s r (omega arith) er))

-- a slack within the range stands for itself, also once it is cast
pub slack_entered : (x y : Option ℤ) (r : ℤ) → ((z : ℤ) → x ≡ Some z → WithinWidest z) → MatchOption x (y ≡ None) (λ z. IsSomeAnd y (λ v. v ≡ to_z w32 (of_z w32 (to_z w64 (of_z w64 z))))) → r ≡ entry_of y → figure r ≡ x
slack_entered None y r within cast e = ap figure (e ∙ ap entry_of cast)
slack_entered (Some z) None r within cast e = absurd cast
slack_entered (Some z) (Some v) r within cast e =
    let range = within z refl in
    let same : v ≡ z = cast ∙ ap (λ (x : ℤ). to_z w32 (of_z w32 x)) (to_z-of_z w64 z (within_fits_wide z range)) ∙ to_z-of_z w32 z (within_fits z range) in
    ap figure (e ∙ same) ∙ figure_above z (within_above z range)

-- the slacks of the first nets are filled in, and the others are as they were
pub record FilledBelow (o : Order) (nets : ℕ) (signals : List SignalRecord) (required : List ℤ) (k : ℕ) (was is : List ℤ) : Type 0 where
  pub each : (n : ℕ) → n < k → Least (SlackHeld o (held_in_area nets signals) (required_in_area nets required) n) (slack_entry is n)
  pub past : FiguresPast k was is

-- the least slack of a net's first records, and of one record more
pub row_more : (o : Order) (signals : List SignalRecord) (required : List ℤ) (n s : ℕ) (x y : Option ℤ) (entry r r' : ℤ) → Least (FigureBelow (slack_of_entries o signals required n) s) x → entry ≡ get_or required (place n s) (pos 0) → y ≡ slack_figure o (held_by (record_at signals n s)) (figure entry) → figure r ≡ lesser_of x y → r' ≡ r → Least (FigureBelow (slack_of_entries o signals required n) (s + 1)) (figure r')
row_more o signals required n s x y entry r r' least e slack lesser same =
    least_more (slack_of_entries o signals required n) s x y (figure r') least (slack ∙ ap (λ (z : ℤ). slack_figure o (held_by (record_at signals n s)) (figure z)) e) (ap figure same ∙ lesser)

-- entries past the first nets stay as one net more is filled in
pub past_more : (n : ℕ) (was slacks : List ℤ) (w : ℤ) → FiguresPast n was slacks → FiguresPast (n + 1) was (set slacks n w)
past_more n was slacks w past i h = get_or-set_other slacks n i w (pos 0) (λ q. absurd (omega arith)) ∙ past i (omega arith)

module _ (o : Order) (nets : ℕ) (signals : List SignalRecord) (required : List ℤ) where
  abbrev Held : ℕ → ℤ → Type 0
  Held n z = SlackHeld o (held_in_area nets signals) (required_in_area nets required) n z

  row_held : (n : ℕ) → n < nets → (z : ℤ) → (s : ℕ) × (s < step_count) × (slack_of_entries o signals required n s ≡ Some z) → Held n z
  row_held n h z (s, k, e) =
      let held = held_by (record_at signals n s) in
      let entry = required_entry required n s in
      let (t, r, et, er, ez) = slack_of_both o held entry z e in
      (s, t, r, in_table nets n s held h k ∙ et, in_table nets n s entry h k ∙ er, ez)

  held_row : (n : ℕ) → n < nets → (z : ℤ) → Held n z → (s : ℕ) × (s < step_count) × (slack_of_entries o signals required n s ≡ Some z)
  held_row n h z (s, t, r, et, er, ez) =
      let held = held_by (record_at signals n s) in
      let entry = required_entry required n s in
      let k = (table_inside nets n s held t et).1 in
      (s, k, both_have_slack o held entry z t r (sym (in_table nets n s held h k) ∙ et) (sym (in_table nets n s entry h k) ∙ er) ez)

  -- the least of a net's row is the least of what the tables hold there
  row_least : (n : ℕ) (z : Option ℤ) → n < nets → LeastOfRow o signals required n z → Least (Held n) z
  row_least n z h least = least_same (λ a. (s : ℕ) × (s < step_count) × (slack_of_entries o signals required n s ≡ Some a)) (Held n) (row_held n h) (held_row n h) z least

  -- one net more
  pub filled_more : (n : ℕ) (slacks : List ℤ) (x : Option ℤ) (w : ℤ) → n < nets → n < length slacks → ((k : ℕ) → k < n → Least (Held k) (slack_entry slacks k)) → LeastOfRow o signals required n x → figure w ≡ x → (k : ℕ) → k < n + 1 → Least (Held k) (slack_entry (set slacks n w) k)
  filled_more n slacks x w h room filled least e k hk = elim (ℕ_discrete k n) [
    | yes q ↦ subst (λ (v : ℕ). Least (Held v) (slack_entry (set slacks n w) v)) (sym q)
        (subst (Least (Held n)) (sym (ap figure (get_or-set_same slacks n w (pos 0) room) ∙ e)) (row_least n x h least))
    | no q ↦ subst (λ (v : ℤ). Least (Held k) (figure v)) (sym (get_or-set_other slacks n k w (pos 0) q)) (filled k (omega arith))
  ]

  -- with the entries past the nets
  pub below_more : (n : ℕ) (was slacks : List ℤ) (x : Option ℤ) (w : ℤ) → n < nets → n < length slacks → FilledBelow o nets signals required n was slacks → LeastOfRow o signals required n x → figure w ≡ x → FilledBelow o nets signals required (n + 1) was (set slacks n w)
  below_more n was slacks x w h room filled least e = record { each = filled_more n slacks x w h room filled.each least e; past = past_more n was slacks w filled.past }

  -- all nets
  pub filled_all : (k : ℕ) (was is : List ℤ) → k ≡ nets → FilledBelow o nets signals required k was is → SlacksFilled o nets signals required was is
  filled_all k was is e filled = record {
    each = λ n h. filled.each n (omega arith);
    past = λ i h. filled.past i (omega arith);
  }

-- the least entry of the front is the least of the area's first entries
pub front_least : (nets : ℕ) (slacks : List ℤ) (z : Option ℤ) → nets ≤ length slacks → LeastEntry (length (take nets slacks)) (take nets slacks) z → LeastEntry nets slacks z
front_least nets slacks z fit least =
    let at : (n : ℕ) → n < nets → slack_entry (take nets slacks) n ≡ slack_entry slacks n = λ n h. ap figure (get_or-take nets slacks n (pos 0) h) in
    least_same (λ a. (n : ℕ) × (n < nets) × (slack_entry (take nets slacks) n ≡ Some a)) (λ a. (n : ℕ) × (n < nets) × (slack_entry slacks n ≡ Some a)) (λ a (n, h, e). (n, h, sym (at n h) ∙ e)) (λ a (n, h, e). (n, h, at n h ∙ e)) z
    (subst (λ (k : ℕ). LeastEntry k (take nets slacks) z) (length-take-le nets slacks fit) least)
