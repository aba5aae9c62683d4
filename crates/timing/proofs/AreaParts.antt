-- The parts of an area: the row of a net, and its table. Assumes nothing.
use Rattle.std.proofs.Common.{◌≡◌, ℕ, ◌+◌, ◌-◌, ◌*◌, ◌<◌, ◌≤◌, Bool, true, false, cond, ltb, List, length, get_or, drop, Some, None, Option, refl, ap, ◌∙◌, arith}
use Rattle.std.proofs.lemmas.Bool.{lt-ltb, ltb-true}
use Rattle.std.proofs.lemmas.Option.{none-some}
use Rattle.std.specs.List.{slice_range, zip}
use Rattle.std.proofs.lemmas.List.{length-take-le, length-drop}
use Rattle.std.proofs.lemmas.List.Edits.{get_or-between}
use Rattle.std.proofs.lemmas.Slice.Zip.{length-zip, get_or-zip}
use Rattle.units.specs.Steps.{step_count}
use Rattle.timing.specs.Areas.{place, inside}

-- the row of net n
abbrev pub row_of : {X : Type 0} → List X → ℕ → List X
row_of xs n = slice_range xs (step_count * n) (step_count * n + step_count)

pub row_long : {X : Type 0} (xs : List X) (n : ℕ) → step_count * n + step_count ≤ length xs → length (row_of xs n) ≡ step_count
row_long xs n h = length-take-le (step_count * n + step_count - step_count * n) (drop (step_count * n) xs) (omega (arith, length-drop (step_count * n) xs)) ∙ omega arith

pub row_at : {X : Type 0} (xs : List X) (n s : ℕ) (d : X) → s < step_count → get_or (row_of xs n) s d ≡ get_or xs (place n s) d
row_at xs n s d h = get_or-between xs (step_count * n) (step_count * n + step_count) s d (omega arith)

-- the rows of net n in two areas, step by step
module _ {X Y : Type 0} (xs : List X) (ys : List Y) (n : ℕ) (fit : step_count * n + step_count ≤ length xs) (fits : step_count * n + step_count ≤ length ys) where
  pub rows_long : length (zip (row_of xs n) (row_of ys n)) ≡ step_count
  rows_long = omega (arith, length-zip (row_of xs n) (row_of ys n), row_long xs n fit, row_long ys n fits)

  pub rows_at : (s : ℕ) (d : X) (e : Y) → s < step_count → get_or (zip (row_of xs n) (row_of ys n)) s (d, e) ≡ (get_or xs (place n s) d, get_or ys (place n s) e)
  rows_at s d e h =
      get_or-zip (row_of xs n) (row_of ys n) s (d, e) (omega (arith, row_long xs n fit)) (omega (arith, row_long ys n fits))
      ∙ ap (λ (v : X). (v, get_or (row_of ys n) s e)) (row_at xs n s d h)
      ∙ ap (λ (v : Y). (get_or xs (place n s) d, v)) (row_at ys n s e h)

-- a table of an area holds what stands at a net and step of the block
pub in_table : {A : Type 0} (nets n s : ℕ) (x : Option A) → n < nets → s < step_count → cond (inside nets n s) x None ≡ x
in_table nets n s x h k = ap (λ v. cond (cond v (ltb s step_count) false) x None) (lt-ltb n nets h) ∙ ap (λ v. cond v x None) (lt-ltb s step_count k)

-- and nothing else
pub table_inside : {A : Type 0} (nets n s : ℕ) (x : Option A) (a : A) → cond (inside nets n s) x None ≡ Some a → (n < nets) × (s < step_count)
table_inside nets n s x a = go (ltb n nets) refl (ltb s step_count) refl
  where
    go : (p : Bool) → ltb n nets ≡ p → (q : Bool) → ltb s step_count ≡ q → cond (cond p q false) x None ≡ Some a → (n < nets) × (s < step_count)
    go true ep true eq e = (ltb-true n nets ep, ltb-true s step_count eq)
    go true ep false eq e = absurd (none-some a e)
    go false ep q eq e = absurd (none-some a e)
