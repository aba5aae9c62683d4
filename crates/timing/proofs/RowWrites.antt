-- An area of required times after the row of one net is written. Assumes nothing.
use Rattle.std.proofs.Common.{◌≡◌, ℕ, ◌*◌, ◌<◌, ◌≤◌, List, length, get_or, ℤ, pos, inl, inr, arith, rules}
use borrow.Rule.Slice.PartMut.{put_mid}
use Rattle.std.proofs.lemmas.List.{places}
use Rattle.std.proofs.lemmas.Bool.{cases_lt}
use Rattle.units.specs.Steps.{step_count, last_step}
use Rattle.timing.specs.Areas.{place}

-- the row of net n is written, and no other entry
pub record RowWritten (n : ℕ) (row was is : List ℤ) : Type 0 where
  pub here : (s : ℕ) → s ≤ last_step → get_or is (place n s) (pos 0) ≡ get_or row s (pos 0)
  pub other : (k s : ℕ) → ¬ (k ≡ n) → s ≤ last_step → get_or is (place k s) (pos 0) ≡ get_or was (place k s) (pos 0)
  pub past : (i : ℕ) → place n step_count ≤ i → get_or is i (pos 0) ≡ get_or was i (pos 0)

pub row_written : (n count : ℕ) (row was : List ℤ) → count ≡ step_count → place n step_count ≤ length was → length row ≡ step_count → RowWritten n row was (put_mid (step_count * n) count was row)
row_written n count row was e fit long = record {
  here = λ s h. search (rules, places);
  other = λ k s ne h. elim (cases_lt k n) [ inl lt ↦ search (rules, places) | inr ge ↦ (let above : n < k = omega arith in search (rules, places)) ];
  past = λ i h. search (rules, places);
}
