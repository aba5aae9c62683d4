-- The signals that an area holds, read from its records. Assumes nothing.
use Rattle.std.proofs.Common.{◌≡◌, ℕ, ◌<◌, ◌≤◌, Bool, true, false, cond, ltb, List, Some, None, sym, refl, ap, ◌∙◌, arith}
use Rattle.std.proofs.lemmas.Bool.{lt-ltb, ltb-true}
use Rattle.units.specs.Steps.{step_count, last_step}
use Rattle.paths.specs.ArcByArc.{one_if_some, held_in}
use Rattle.paths.proofs.CountedRows.{sum_below_same}
use Rattle.timing.specs.declared.answers.SignalRecord.{SignalRecord}
use Rattle.timing.specs.Areas.{record_at, held_by, held_in_area}
use Rattle.timing.specs.Offers.{kept_below}

both_inside : (x y k : Bool) (t u : ℕ) → cond (cond x y false) (cond k (Some t) None) None ≡ Some u → (x ≡ true) × (y ≡ true) × (k ≡ true) × (t ≡ u)
both_inside true true true t u e = (refl, refl, refl, cc)
both_inside true true false t u e = cc
both_inside true false k t u e = cc
both_inside false y k t u e = cc

module _ (nets : ℕ) (area : List SignalRecord) where
  -- what is held is the time of a kept record
  pub held_is_kept : (n s t : ℕ) → held_in_area nets area n s ≡ Some t → (n < nets) × (s ≤ last_step) × ((record_at area n s).kept ≡ true) × ((record_at area n s).time ≡ t)
  held_is_kept n s t e =
      let (in-nets, in-steps, kept, time) = both_inside (ltb n nets) (ltb s step_count) (record_at area n s).kept (record_at area n s).time t e in
      let ls = ltb-true s step_count in-steps in
      (ltb-true n nets in-nets, omega arith, kept, time)

  -- within the block the area holds what its records do
  pub held_within : (n s : ℕ) → n < nets → s ≤ last_step → held_in_area nets area n s ≡ held_by (record_at area n s)
  held_within n s ln ls =
      ap (λ (x : Bool). cond (cond x (ltb s step_count) false) (held_by (record_at area n s)) None) (lt-ltb n nets ln)
      ∙ ap (λ (x : Bool). cond x (held_by (record_at area n s)) None) (lt-ltb s step_count (omega arith))

  pub kept_is_held : (n s : ℕ) → n < nets → s ≤ last_step → (record_at area n s).kept ≡ true → held_in_area nets area n s ≡ Some (record_at area n s).time
  kept_is_held n s ln ls kept = held_within n s ln ls ∙ ap (λ (x : Bool). cond x (Some (record_at area n s).time) None) kept

  pub row_counted : (n : ℕ) → n < nets → kept_below (record_at area) n step_count ≡ held_in (held_in_area nets area n)
  row_counted n ln =
      sum_below_same (λ s. one_if_some (held_by (record_at area n s))) (λ s. one_if_some (held_in_area nets area n s)) step_count
      (λ s ls. ap one_if_some (sym (held_within n s ln (omega arith))))
