-- A row pruned from the worst step on: one turn more, at which the signal is taken off or left. Assumes nothing.
use Rattle.std.proofs.Common.{◌≡◌, ℕ, ◌+◌, ◌-◌, ◌<◌, ◌≤◌, Bool, true, false, cond, ◌⊎◌, List, length, get_or, set, pos, Some, None, Option, sym, refl, ap, ◌∙◌, subst, inl, inr, arith}
use native.Mathlib.Decide.{ℕ_discrete}
use Rattle.std.proofs.lemmas.Int.{ints}
use Rattle.std.proofs.lemmas.List.{set-get_or}
use Rattle.std.proofs.lemmas.Option.{none-some}
use Rattle.units.specs.Senses.{Order, AsBad, late_order, early_order}
use Rattle.units.specs.Senses as senses
use Rattle.units.specs.Steps.{step_count, last_step}
use Rattle.paths.specs.Signals.{Covers}
use Rattle.paths.proofs.Covering.{as_bad_refl, covers_refl, covers_transitive}
use Rattle.timing.specs.declared.answers.SignalRecord.{SignalRecord}
use Rattle.timing.specs.Areas.{place, record_at, no_signal}
use Rattle.timing.specs.Offers.{Records, signal_of, turn_of, WorstAsBad, Pruned, RowPruned}
use Rattle.timing.proofs.RecordWrites.{record_written, record_elsewhere}

-- turns and steps

pub turn_fits : (o : Order) (u : ℕ) → u ≤ last_step → turn_of o u < step_count
turn_fits o u lu = go o.is_late
  where
    go : (late : Bool) → cond late (last_step - u) u < step_count
    go true = omega arith
    go false = omega arith

same_step : (o : Order) (u s : ℕ) → u ≤ last_step → s ≤ last_step → turn_of o u ≡ turn_of o s → u ≡ s
same_step o u s lu ls = go o.is_late
  where
    go : (late : Bool) → cond late (last_step - u) u ≡ cond late (last_step - s) s → u ≡ s
    go true e = omega arith
    go false e = e

-- a step before is a worse one
worse_before : (o : Order) → (o ≡ late_order) ⊎ (o ≡ early_order) → (u s : ℕ) → u ≤ last_step → s ≤ last_step → turn_of o u < turn_of o s → AsBad o (pos u) (pos s)
worse_before o (inl late) u s lu ls = rw late (λ h. grind (arith, ints))
worse_before o (inr early) u s lu ls = rw early (λ h. grind (arith, ints))

not_after : (o : Order) → (o ≡ late_order) ⊎ (o ≡ early_order) → (u s : ℕ) → AsBad o (pos u) (pos s) → turn_of o u ≤ turn_of o s
not_after o (inl late) u s = rw late (λ h. grind (arith, ints))
not_after o (inr early) u s = rw early (λ h. grind (arith, ints))

-- this is the worst time of the signals that are left before turn k, if there are any
pub record WorstBefore (o : Order) (n k : ℕ) (rows : Records) (worst : Option ℕ) : Type 0 where
  pub of_row : (w : ℕ) → worst ≡ Some w → (u : ℕ) × (u ≤ last_step) × (turn_of o u < k) × ((rows n u).kept ≡ true) × ((rows n u).time ≡ w)
  pub as_bad : (u : ℕ) → u ≤ last_step → turn_of o u < k → (rows n u).kept ≡ true → WorstAsBad o worst (rows n u).time

-- before the first turn the row is as it was
pub pruned_none : (o : Order) (L : senses.Lawful o) (n : ℕ) (A : Records) → RowPruned o n 0 A A
pruned_none o L n A = record {
  other_rows = λ h s ls ne. refl;
  fewer = λ s ls. inl refl;
  covered = λ s ls k. (s, ls, k, covers_refl o L (signal_of (A n s) s));
  apart = λ s u ls lu lt. absurd (omega arith);
}

-- and there is no worst time
pub worst_of_none : (o : Order) (n : ℕ) (A : Records) → WorstBefore o n 0 A None
worst_of_none o n A = record { of_row = λ w e. absurd (none-some w e); as_bad = λ u lu lt. absurd (omega arith) }

module _ (o : Order) (L : senses.Lawful o) (sense : (o ≡ late_order) ⊎ (o ≡ early_order)) (n s : ℕ) (ls : s ≤ last_step) (A B : Records) (worst : Option ℕ) (H : RowPruned o n (turn_of o s) A B) (W : WorstBefore o n (turn_of o s) B worst) where
  -- a step up to this turn is one before, or this one
  before : (u : ℕ) → u ≤ last_step → turn_of o u < turn_of o s + 1 → ¬ (u ≡ s) → turn_of o u < turn_of o s
  before u lu lt ne = elim (ℕ_discrete (turn_of o u) (turn_of o s)) [
    | yes e ↦ absurd (ne (same_step o u s lu ls e))
    | no e ↦ omega arith
  ]

  -- the step holds no signal
  module _ (none : (B n s).kept ≡ false) where
    other : (u : ℕ) → (B n u).kept ≡ true → ¬ (u ≡ s)
    other u kept e = let same = ap (B n) e in cc

    pub pruned_not_held : RowPruned o n (turn_of o s + 1) A B
    pruned_not_held = record {
      other_rows = H.other_rows;
      fewer = H.fewer;
      covered = H.covered;
      apart = λ t u lt lu le kt ku c. H.apart t u lt lu (before u lu le (other u ku)) kt ku c;
    }

    pub worst_not_held : WorstBefore o n (turn_of o s + 1) B worst
    worst_not_held = record {
      of_row = λ w e. let (u, lu, lt, kept, time) = W.of_row w e in (u, lu, omega arith, kept, time);
      as_bad = λ u lu lt kept. W.as_bad u lu (before u lu lt (other u kept)) kept;
    }

  -- no signal before is as bad in time as its signal, so that none covers it
  module _ (held : (B n s).kept ≡ true) (worse : ¬ WorstAsBad o worst (B n s).time) where
    covered_by_itself : (u : ℕ) → u ≤ last_step → (B n u).kept ≡ true → Covers o (signal_of (B n u) u) (signal_of (B n s) s) → u ≡ s
    covered_by_itself u lu kept c = elim (ℕ_discrete u s) [
      | yes e ↦ e
      | no ne ↦
          let not-later = not_after o sense u s c.in_step in
          let (w, some, bad) = W.as_bad u lu (before u lu (omega arith) ne) kept in
          absurd (worse (w, some, L.transitive (pos w) (pos (B n u).time) (pos (B n s).time) bad c.in_time))
    ]

    pub pruned_left : RowPruned o n (turn_of o s + 1) A B
    pruned_left = record {
      other_rows = H.other_rows;
      fewer = H.fewer;
      covered = H.covered;
      apart = λ t u lt lu le kt ku c. elim (ℕ_discrete u s) [
        | no e ↦ H.apart t u lt lu (before u lu le e) kt ku c
        | yes e ↦ covered_by_itself t lt kt (rw e at c) ∙ sym e
      ];
    }

    -- so its own time is the worst now
    worse_now : (w : ℕ) → worst ≡ Some w → AsBad o (pos (B n s).time) (pos w)
    worse_now w some = elim (L.total (pos (B n s).time) (pos w)) [
      | inl bad ↦ bad
      | inr bad ↦ absurd (worse (w, some, bad))
    ]

    pub worst_left : WorstBefore o n (turn_of o s + 1) B (Some (B n s).time)
    worst_left = record {
      of_row = λ w e. (s, ls, omega arith, held, cc);
      as_bad = λ u lu lt kept. elim (ℕ_discrete u s) [
        | yes e ↦ ((B n s).time, refl, rw e (as_bad_refl o L (pos (B n s).time)))
        | no e ↦
            let (w, some, bad) = W.as_bad u lu (before u lu lt e) kept in
            ((B n s).time, refl, L.transitive (pos (B n s).time) (pos w) (pos (B n u).time) (worse_now w some) bad)
      ];
    }

  -- a signal before is as bad in time and of a worse step, and its signal is taken off
  module _ (bad : WorstAsBad o worst (B n s).time) (C : Records) (off : C n s ≡ no_signal) (rest : (h u : ℕ) → u ≤ last_step → ((h ≡ n) → ¬ (u ≡ s)) → C h u ≡ B h u) where
    not_off : (u : ℕ) → (C n u).kept ≡ true → ¬ (u ≡ s)
    not_off u kept e = let same = ap (C n) e in cc

    still : (u : ℕ) → u ≤ last_step → (C n u).kept ≡ true → C n u ≡ B n u
    still u lu kept = rest n u lu (λ x. not_off u kept)

    abbrev CoveredNow : ℕ → Type 0
    CoveredNow t = (u : ℕ) × (u ≤ last_step) × ((C n u).kept ≡ true) × Covers o (signal_of (C n u) u) (signal_of (A n t) t)

    -- a signal at another step is still there
    stays : (t u : ℕ) → u ≤ last_step → ¬ (u ≡ s) → (B n u).kept ≡ true → Covers o (signal_of (B n u) u) (signal_of (A n t) t) → CoveredNow t
    stays t u lu ne ku c =
        let e : C n u ≡ B n u = rest n u lu (λ x. ne) in
        (u, lu, cc, rw e c)

    covered_now : (t : ℕ) → t ≤ last_step → (A n t).kept ≡ true → CoveredNow t
    covered_now t lt kt =
        let (u, lu, ku, c) = H.covered t lt kt in
        let (z, some, worse) = bad in
        let (w, lw, earlier, kw, time) = W.of_row z some in
        let nw : ¬ (w ≡ s) = λ e. let same = ap (turn_of o) e in omega arith in
        let d : Covers o (signal_of (B n w) w) (signal_of (B n s) s) = record { in_time = rw time worse; in_step = worse_before o sense w s lw ls earlier } in
        elim (ℕ_discrete u s) [
          | no e ↦ stays t u lu e ku c
          | yes e ↦ stays t w lw nw kw (covers_transitive o L (signal_of (B n w) w) (signal_of (B n s) s) (signal_of (A n t) t) d (rw e at c))
        ]

    apart_now : (t u : ℕ) → t ≤ last_step → u ≤ last_step → turn_of o u < turn_of o s + 1 → (C n t).kept ≡ true → (C n u).kept ≡ true → Covers o (signal_of (C n t) t) (signal_of (C n u) u) → t ≡ u
    apart_now t u lt lu le kt ku c =
        let et = still t lt kt in
        let eu = still u lu ku in
        H.apart t u lt lu (before u lu le (not_off u ku)) (cc) (cc) (rw (et, eu) at c)

    pub pruned_off : RowPruned o n (turn_of o s + 1) A C
    pruned_off = record {
      other_rows = λ h t lt ne. rest h t lt (λ x. absurd (ne x)) ∙ H.other_rows h t lt ne;
      fewer = λ t lt. elim (ℕ_discrete t s) [
        | yes e ↦ inr (ap (C n) e ∙ off)
        | no e ↦ elim (H.fewer t lt) [ inl q ↦ inl (rest n t lt (λ x. e) ∙ q) | inr q ↦ inr (rest n t lt (λ x. e) ∙ q) ]
      ];
      covered = covered_now;
      apart = apart_now;
    }

    pub worst_off : WorstBefore o n (turn_of o s + 1) C worst
    worst_off = record {
      of_row = λ w e.
          let (u, lu, lt, kept, time) = W.of_row w e in
          let ne : ¬ (u ≡ s) = λ q. let same = ap (turn_of o) q in omega arith in
          let same : C n u ≡ B n u = rest n u lu (λ x. ne) in
          (u, lu, omega arith, cc, cc);
      as_bad = λ u lu lt kept.
          let same = still u lu kept in
          rw same (W.as_bad u lu (before u lu lt (not_off u kept)) (cc));
    }

-- what the loop over the turns keeps
pub record PrunedBefore (o : Order) (n k : ℕ) (A : Records) (area : List SignalRecord) (worst : Option ℕ) : Type 0 where
  pub row : RowPruned o n k A (record_at area)
  pub worst_is : WorstBefore o n k (record_at area) worst

module _ (o : Order) (L : senses.Lawful o) (sense : (o ≡ late_order) ⊎ (o ≡ early_order)) (n s k at : ℕ) (A : Records) (area : List SignalRecord) (e : SignalRecord) (worst worst' : Option ℕ) (ls : s ≤ last_step) (turn : turn_of o s ≡ k) (here : at ≡ place n s) (fits : at < length area) where
  abbrev PrunedNow : Type 0
  PrunedNow = PrunedBefore o n (turn_of o s + 1) A (set area (place n s) e) worst'

  module _ (P : PrunedBefore o n (turn_of o s) A area worst) where
    -- the record unchanged
    unchanged : (r : Option ℕ) → e ≡ record_at area n s → worst' ≡ r → PrunedBefore o n (turn_of o s + 1) A area r → PrunedNow
    unchanged r same now H = rw (same, set-get_or area (place n s) no_signal, now) H

    one_turn : Pruned o (record_at area n s) worst e worst' → PrunedNow
    one_turn (inl (none, same, now)) =
        unchanged worst same now (record {
          row = pruned_not_held o L sense n s ls A (record_at area) worst P.row P.worst_is none;
          worst_is = worst_not_held o L sense n s ls A (record_at area) worst P.row P.worst_is none;
        })
    one_turn (inr (inl (held, bad, off, now))) =
        let next : List SignalRecord = set area (place n s) e in
        let off_now : record_at next n s ≡ no_signal = record_written area n s e (omega arith) ∙ off in
        let rest : (h u : ℕ) → u ≤ last_step → ((h ≡ n) → ¬ (u ≡ s)) → record_at next h u ≡ record_at area h u = λ h u lu ne. record_elsewhere area n s e h u ls lu ne in
        subst (PrunedBefore o n (turn_of o s + 1) A next) (sym now) (record {
          row = pruned_off o L sense n s ls A (record_at area) worst P.row P.worst_is bad (record_at next) off_now rest;
          worst_is = worst_off o L sense n s ls A (record_at area) worst P.row P.worst_is bad (record_at next) off_now rest;
        })
    one_turn (inr (inr (held, worse, same, now))) =
        unchanged (Some (record_at area n s).time) same now (record {
          row = pruned_left o L sense n s ls A (record_at area) worst P.row P.worst_is held worse;
          worst_is = worst_left o L sense n s ls A (record_at area) worst P.row P.worst_is held worse;
        })

  pub pruned_turn : PrunedBefore o n k A area worst → Pruned o (get_or area at no_signal) worst e worst' → PrunedBefore o n (k + 1) A (set area at e) worst'
  pruned_turn = rw (here, ← turn) one_turn
