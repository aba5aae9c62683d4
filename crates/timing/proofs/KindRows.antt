-- The first arc whose kind the model does not hold. Assumes nothing.
use Rattle.std.proofs.Common.{◌≡◌, ℕ, ◌<◌, ◌≤◌, true, false, leb, List, length, Some, None, Option, arith}
use Rattle.std.proofs.lemmas.Bool.Decides.{nat_tests}
use Rattle.std.specs.List.{HoldsAt, AllWithin}
use Rattle.std.specs.Option.{MatchOption}
use Rattle.units.specs.Refusals.{first}
use Rattle.units.proofs.FirstRow.{none_holds, first_holds}
use Rattle.paths.specs.declared.blocks.Arc.{Arc}
use Rattle.paths.specs.Blocks.{kind_of, no_arc}
use Rattle.timing.specs.Faults.{timing_refusal}
use Rattle.timing.specs.Rows.{kind_rows, KindsHeld}

above : (a b : ℕ) → a ≤ b → leb a b ≡ true
above a b h = grind (arith, nat_tests)

below : (a b : ℕ) → b < a → leb a b ≡ false
below a b h = grind (arith, nat_tests)

-- where each kind is held no row holds
pub all_held : (count : ℕ) (arcs : List Arc) → KindsHeld count arcs → first (kind_rows count arcs) ≡ None
all_held count arcs held = none_holds (λ i. leb count (kind_of arcs i)) (λ i. timing_refusal 23 i) 0 (length arcs) (λ i _ lt. below count (kind_of arcs i) (held i (omega arith)))

-- the first row that holds is that of the first kind that is not
pub first_missing : (count : ℕ) (arcs : List Arc) (i : ℕ) → i < length arcs → count ≤ kind_of arcs i → ((j : ℕ) → j < i → kind_of arcs j < count) → first (kind_rows count arcs) ≡ Some (timing_refusal 23 i)
first_missing count arcs i lt missing before =
    first_holds (λ i. leb count (kind_of arcs i)) (λ i. timing_refusal 23 i) 0 (length arcs) i (omega arith) (omega arith) (above count (kind_of arcs i) missing) (λ j _ less. below count (kind_of arcs j) (before j less))

-- what the place of the first such arc says of the rows
pub kinds_tested : (count : ℕ) (arcs : List Arc) (found : Option ℕ) → MatchOption found (AllWithin (λ (a : Arc). a.kind < count) arcs 0 (length arcs)) (λ i. (i < length arcs) × HoldsAt (λ (a : Arc). count ≤ a.kind) arcs i × AllWithin (λ (a : Arc). a.kind < count) arcs 0 i)
    → MatchOption found ((first (kind_rows count arcs) ≡ None) × KindsHeld count arcs) (λ i. first (kind_rows count arcs) ≡ Some (timing_refusal 23 i))
kinds_tested count arcs None held = let each : KindsHeld count arcs = λ i lt. held i no_arc (omega arith) lt in (all_held count arcs each, each)
kinds_tested count arcs (Some i) (lt, missing, before) = first_missing count arcs i lt (missing no_arc) (λ j less. before j no_arc (omega arith) less)
