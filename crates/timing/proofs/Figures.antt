-- The figure that an entry of an area stands for. Assumes nothing.
use Rattle.std.proofs.Common.{◌≡◌, ℕ, ◌^◌, ◌<◌, ◌≤◌, Bool, true, false, cond, ℤ, pos, ◌-ℤ◌, ◌≤ℤ◌, ◌<ℤ◌, Some, None, Option, sym, refl, subst, arith, w32, SFits, to_z, of_z}
use lib.Signed.{le_z, mag}
use mir.Val.{hbits}
use Rattle.std.proofs.lemmas.Int.{ints, to_z-of_z}
use Rattle.models.specs.Meaning.{max_delay}
use Rattle.paths.specs.Ranges.{RequiredFits}
use Rattle.std.proofs.lemmas.Option.{none-some, same_Some}
use Rattle.timing.specs.RequiredRows.{as_figure}
use Rattle.timing.specs.Areas.{none_value, figure, entry_of, HasEntry}

-- a number above what stands for none stands for itself
pub figure_above : (z : ℤ) → none_value <ℤ z → figure z ≡ Some z
figure_above z above = go (le_z z none_value) refl
  where
    go : (v : Bool) → le_z z none_value ≡ v → cond v None (Some z) ≡ Some z
    go false e = refl
    go true e = absurd (let at_most : z ≤ℤ none_value = grind (arith, ints) in omega (arith, ints))

-- so does a number of 32 bits that does not stand for none
pub figure_some : (z : ℤ) → SFits w32 z → (z ≡ none_value → ⊥) → figure z ≡ Some z
figure_some z fits ne = figure_above z (grind (arith, ints))

-- a figure is above what stands for none
pub figure_is_above : (z a : ℤ) → figure z ≡ Some a → none_value <ℤ a
figure_is_above z a = go (le_z z none_value) refl
  where
    go : (v : Bool) → le_z z none_value ≡ v → cond v None (Some z) ≡ Some a → none_value <ℤ a
    go true e q = absurd (none-some a q)
    go false e q = subst (λ (x : ℤ). none_value <ℤ x) (same_Some z a q) (grind (arith, ints))

-- the entry that stands for a figure, where the figure is above what stands for none
pub entry_stands : (x : Option ℤ) → ((z : ℤ) → x ≡ Some z → none_value <ℤ z) → HasEntry x
entry_stands None above = refl
entry_stands (Some z) above = figure_above z (above z refl)

-- a number of 32 bits is the entry of its figure
pub entry_of_figure : (z : ℤ) → SFits w32 z → z ≡ entry_of (figure z)
entry_of_figure z fits = go (le_z z none_value) refl
  where
    go : (v : Bool) → le_z z none_value ≡ v → z ≡ entry_of (cond v None (Some z))
    go false e = refl
    go true e = grind (arith, ints)

-- a limit that is a figure
pub limit_is : (limit : Option ℕ) (r : ℤ) → as_figure limit ≡ Some r → (t : ℕ) × (limit ≡ Some t) × (r ≡ pos t)
limit_is None r e = absurd (none-some r e)
limit_is (Some t) r e = (t, refl, sym (same_Some (pos t) r e))

-- a result of 32 bits, to its bits and back
pub again : (z : ℤ) → mag z < 2 ^ hbits w32 → to_z w32 (of_z w32 z) ≡ z
again z h = to_z-of_z w32 z (record { sfits = h })

-- less a delay a required time is a number of 32 bits
pub less_delay_in_range : (r : ℤ) (delay : ℕ) → RequiredFits r → delay ≤ max_delay → SFits w32 (r -ℤ pos delay)
less_delay_in_range r delay (low, high) short = omega (arith, ints)

-- less a delay a required time fits its bits, and does not stand for none
pub less_delay_fits : (r : ℤ) (delay : ℕ) → RequiredFits r → delay ≤ max_delay → SFits w32 (to_z w32 (of_z w32 r) -ℤ to_z w32 delay)
less_delay_fits r delay (low, high) short = omega (arith, ints)

pub less_delay_bits : (r : ℤ) (delay : ℕ) → RequiredFits r → delay ≤ max_delay → to_z w32 (of_z w32 (to_z w32 (of_z w32 r) -ℤ to_z w32 delay)) ≡ r -ℤ pos delay
less_delay_bits r delay (low, high) short = omega (arith, ints)

pub less_delay_above : (r : ℤ) (delay : ℕ) → RequiredFits r → delay ≤ max_delay → none_value <ℤ (r -ℤ pos delay)
less_delay_above r delay (low, high) short = omega (arith, ints)

-- so it stands for itself
pub less_delay_figure : (r : ℤ) (delay : ℕ) → RequiredFits r → delay ≤ max_delay → figure (r -ℤ pos delay) ≡ Some (r -ℤ pos delay)
less_delay_figure r delay fits short = figure_above (r -ℤ pos delay) (less_delay_above r delay fits short)

pub fits_above : (r : ℤ) → RequiredFits r → none_value <ℤ r
fits_above r (low, high) = omega (arith, ints)
