-- The first step of a net whose signal has a slack. Assumes nothing.
use Rattle.std.proofs.Common.{◌≡◌, ℕ, ◌*◌, ◌+◌, ◌<◌, ◌≤◌, List, length, get_or, ℤ, Some, None, Option, sym, subst, arith}
use Rattle.std.specs.Option.{MatchOption, IsSomeAnd}
use Rattle.std.specs.List.{HoldsAt, AllWithin}
use Rattle.units.specs.Senses.{Order}
use Rattle.units.specs.Steps.{step_count, last_step}
use Rattle.timing.specs.declared.answers.SignalRecord.{SignalRecord}
use Rattle.timing.specs.Areas.{no_signal, held_by}
use Rattle.timing.specs.SlackFigures.{slack_figure}
use Rattle.timing.specs.WorstPaths.{EndStep}
use Rattle.timing.proofs.AreaParts.{row_of, row_long, row_at}

module _ (o : Order) (signals : List SignalRecord) (n : ℕ) (limit : Option ℤ) (z : ℤ) (fit : step_count * n + step_count ≤ length signals) where
  -- the record's signal has the slack
  abbrev pub HasSlack : SignalRecord → Type 0
  HasSlack e = slack_figure o (held_by e) limit ≡ Some z

  abbrev pub HasOther : SignalRecord → Type 0
  HasOther e = ¬ HasSlack e

  abbrev pub row : List SignalRecord
  row = row_of signals n

  pub first_step : (found answer : Option ℕ) → MatchOption found (AllWithin HasOther row 0 (length row)) (λ i. (i < length row) × HoldsAt HasSlack row i × AllWithin HasOther row 0 i)
      → MatchOption found (answer ≡ None) (λ i. IsSomeAnd answer (λ s. s ≡ i)) → EndStep o signals n limit z answer
  first_step None answer none same = subst (EndStep o signals n limit z) (sym same) (λ s h. subst HasOther (row_at signals n s no_signal (omega arith)) (none s no_signal (omega arith) (omega (arith, row_long signals n fit))))
  first_step (Some i) None found same = absurd same
  first_step (Some i) (Some s) found same =
      let within : s ≤ last_step = omega (arith, found.0, row_long signals n fit, same) in
      (within, subst HasSlack (row_at signals n s no_signal (omega arith)) (subst (λ (k : ℕ). HasSlack (get_or row k no_signal)) (sym same) (found.1 no_signal)))
