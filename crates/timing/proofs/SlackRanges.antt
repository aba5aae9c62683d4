-- The slack of a signal against a required time fits 32 bits, and is what its record says. Assumes nothing.
use Rattle.std.proofs.Common.{◌≡◌, ℕ, ◌+◌, ◌≤◌, Bool, true, false, cond, not, ◌⊎◌, ℤ, pos, neg_ℤ, ◌≤ℤ◌, ◌<ℤ◌, Some, None, Option, sym, refl, ap, ◌∙◌, subst, inl, inr, arith, w32, w64, SFits, to_z, of_z}
use Rattle.std.proofs.lemmas.Int.{ints, to_z-of_z}
use Rattle.units.specs.Senses.{Order, late_order, early_order}
use Rattle.paths.specs.Ranges.{latest_time, longest_delay, RequiredFits}
use Rattle.timing.specs.declared.answers.SignalRecord.{SignalRecord}
use Rattle.timing.specs.Areas.{held_by, none_value, figure}
use Rattle.timing.specs.SlackFigures.{slack_figure}
use Rattle.timing.proofs.Figures.{figure_above, figure_some}

-- as far as a slack can lie from 0
abbrev pub widest_slack : ℕ
widest_slack = latest_time + longest_delay

abbrev pub WithinWidest : ℤ → Type 0
WithinWidest z = (neg_ℤ (pos widest_slack) ≤ℤ z) × (z ≤ℤ pos widest_slack)

pub slack_within : (o : Order) → (o ≡ late_order) ⊎ (o ≡ early_order) → (t : ℕ) (r : ℤ) → t ≤ latest_time → RequiredFits r → WithinWidest (o.slack (pos t) r)
slack_within o (inl late) t r h (low, high) = subst (λ (v : Order). WithinWidest (v.slack (pos t) r)) (sym late) (omega (arith, ints), omega (arith, ints))
slack_within o (inr early) t r h (low, high) = subst (λ (v : Order). WithinWidest (v.slack (pos t) r)) (sym early) (omega (arith, ints), omega (arith, ints))

-- so it fits its types, and is above what stands for none
pub within_fits : (z : ℤ) → WithinWidest z → SFits w32 z
within_fits z (low, high) = omega (arith, ints)

pub within_fits_wide : (z : ℤ) → WithinWidest z → SFits w64 z
within_fits_wide z (low, high) = omega (arith, ints)

pub within_above : (z : ℤ) → WithinWidest z → none_value <ℤ z
within_above z (low, high) = omega (arith, ints)

-- the bits of an entry other than that for none
required_other : (required : ℤ) → ¬ (of_z w32 required ≡ of_z w32 none_value) → ¬ (required ≡ none_value)
required_other required other e = other (ap (of_z w32) e)

-- the slack of a record's signal against an entry that stands for a required time
module _ (o : Order) (sense : (o ≡ late_order) ⊎ (o ≡ early_order)) (signal : SignalRecord) (required z : ℤ) (entry : SFits w32 required) (time : signal.time ≤ latest_time) (range : (r : ℤ) → figure required ≡ Some r → RequiredFits r) (other : ¬ (of_z w32 required ≡ of_z w32 none_value)) (is : z ≡ o.slack (pos signal.time) (to_z w32 (of_z w32 required))) where
  stands : figure required ≡ Some required
  stands = figure_some required entry (required_other required other)

  slack_is : z ≡ o.slack (pos signal.time) required
  slack_is = is ∙ ap (o.slack (pos signal.time)) (to_z-of_z w32 required entry)

  within : WithinWidest z
  within = subst WithinWidest (sym slack_is) (slack_within o sense signal.time required time (range required stands))

  -- it fits 32 bits
  pub slack_fits : SFits w32 z
  slack_fits = within_fits z within

  -- also once it is cast
  pub slack_recorded : not signal.kept ≡ false → figure (to_z w32 (of_z w32 z)) ≡ slack_figure o (held_by signal) (figure required)
  slack_recorded kept =
      ap figure (to_z-of_z w32 z slack_fits)
      ∙ figure_above z (within_above z within)
      ∙ ap Some slack_is
      ∙ ap (λ (x : Option ℤ). slack_figure o (Some signal.time) x) (sym stands)
      ∙ ap (λ (k : Bool). slack_figure o (cond k (Some signal.time) None) (figure required)) (sym (is_kept signal.kept kept))
    where
      is_kept : (k : Bool) → not k ≡ false → k ≡ true
      is_kept true e = refl
      is_kept false e = sym e
