-- Runs and signals along two runs in a row; and covering is carried over an arc and along any run. Assumes nothing.
use Rattle.std.proofs.Common.{◌≡◌, ℕ, ◌+◌, ◌≤◌, ◌⊎◌, List, [], ◌∷◌, ◌++◌, ℤ, pos, sym, refl, ◌∙◌, subst, inl, inr, true≢false, add-zero, add_assoc}
use Rattle.std.proofs.lemmas.Bool.{cases_Bool}
use Rattle.units.specs.Senses.{Order, AsBad}
use Rattle.units.specs.Senses as senses
use Rattle.units.specs.Steps.{last_step}
use Rattle.models.specs.Meaning.{Meaning}
use Rattle.models.specs.Meaning as models
use Rattle.paths.specs.Blocks.{Block, head_of, kind_of}
use Rattle.paths.specs.Runs.{Run}
use Rattle.paths.specs.Signals.{Signal, signal, Launches, carried, along, run_delay, Covers}
use Rattle.paths.specs.ArcByArc.{CoveringCarried}

pub run_append : (b : Block) (n middle end : ℕ) (is js : List ℕ) → Run b n is middle → Run b middle js end → Run b n (is ++ js) end
run_append b n middle end [] js p q = subst (λ (v : ℕ). Run b v js end) (sym p) q
run_append b n middle end (i ∷ is) js p q = (p.0, p.1, run_append b (head_of b.arcs i) middle end is js p.2 q)

pub along_append : (b : Block) (m : Meaning) (x : Signal) (is js : List ℕ) → along b m x (is ++ js) ≡ along b m (along b m x is) js
along_append b m x [] js = refl
along_append b m x (i ∷ is) js = along_append b m (carried b m i x) is js

-- along a run the time grows by the run's delay
pub along_time : (b : Block) (m : Meaning) (x : Signal) (is : List ℕ) → (along b m x is).time ≡ x.time + run_delay b m x.step is
along_time b m x [] = sym (add-zero x.time)
along_time b m x (i ∷ is) = along_time b m (carried b m i x) is ∙ add_assoc _ _ _

-- and the step is one of those there are
pub along_fits : (b : Block) (m : Meaning) → models.Lawful m → (x : Signal) (is : List ℕ) → x.step ≤ last_step → (along b m x is).step ≤ last_step
along_fits b m M x [] h = h
along_fits b m M x (i ∷ is) h = along_fits b m M (carried b m i x) is (M.output_step.fits _ _)

-- so is that of a launch; no other lemma looks at how it is rounded
pub launch_fits : (b : Block) (o : Order) (n : ℕ) (x : Signal) → Launches b o n x → x.step ≤ last_step
launch_fits b o n x launched = launched.3.within

-- the sense tests whether a figure is as bad, so covering is decided
pub as_bad_decided : (o : Order) (a b : ℤ) → Dec (AsBad o a b)
as_bad_decided o a b = elim (cases_Bool (o.as_bad a b)) [ inl e ↦ yes e | inr e ↦ no (λ p. true≢false (sym p ∙ e)) ]

pub covers_decided : (o : Order) (x y : Signal) → Dec (Covers o x y)
covers_decided o x y = elim (as_bad_decided o (pos x.time) (pos y.time)) [
  | no t ↦ no (λ c. t c.in_time)
  | yes t ↦ elim (as_bad_decided o (pos x.step) (pos y.step)) [
    | no s ↦ no (λ c. s c.in_step)
    | yes s ↦ yes (record { in_time = t; in_step = s })
  ]
]

module _ (o : Order) (L : senses.Lawful o) where
  pub as_bad_refl : (a : ℤ) → AsBad o a a
  as_bad_refl a = elim (L.total a a) [ inl p ↦ p | inr p ↦ p ]

  pub covers_refl : (x : Signal) → Covers o x x
  covers_refl x = record { in_time = as_bad_refl (pos x.time); in_step = as_bad_refl (pos x.step) }

  -- of two signals of one step, one covers the other
  pub covers_total_at_step : (t t' s : ℕ) → Covers o (signal t s) (signal t' s) ⊎ Covers o (signal t' s) (signal t s)
  covers_total_at_step t t' s = elim (L.total (pos t) (pos t')) [
    | inl p ↦ inl (record { in_time = p; in_step = as_bad_refl (pos s) })
    | inr p ↦ inr (record { in_time = p; in_step = as_bad_refl (pos s) })
  ]

  pub covers_transitive : (x y z : Signal) → Covers o x y → Covers o y z → Covers o x z
  covers_transitive x y z p q =
      record { in_time = L.transitive _ _ _ p.in_time q.in_time; in_step = L.transitive _ _ _ p.in_step q.in_step }

  pos_injective : (a b : ℕ) → pos a ≡ pos b → a ≡ b
  pos_injective a b p = cc

  pub covers_antisymmetric : (x y : Signal) → Covers o x y → Covers o y x → x ≡ y
  covers_antisymmetric x y p q =
      let t : x.time ≡ y.time = pos_injective _ _ (L.antisymmetric _ _ p.in_time q.in_time) in
      let s : x.step ≡ y.step = pos_injective _ _ (L.antisymmetric _ _ p.in_step q.in_step) in
      λ i. record { time = t i; step = s i }

  -- sums keep the order of the times, and tables that never fall that of the steps
  pub covers_carried : (b : Block) (m : Meaning) → models.Lawful m → (i : ℕ) (x y : Signal) → x.step ≤ last_step → y.step ≤ last_step → Covers o x y → Covers o (carried b m i x) (carried b m i y)
  covers_carried b m M i x y h k c =
      record {
        in_time =
            L.sums _ _ _ _ c.in_time (L.tables (m.delay (kind_of b.arcs i)) last_step _ _ (M.delay.never_falls _) h k c.in_step);
        in_step = L.tables (m.output_step (kind_of b.arcs i)) last_step _ _ (M.output_step.never_falls _) h k c.in_step;
      }

-- a relation on signals that serves for pruning
pub record Prunes (b : Block) (m : Meaning) (o : Order) (Over : Signal → Signal → Type 0) : Type 0 where
  pub transitive : (x y z : Signal) → Over x y → Over y z → Over x z
  pub antisymmetric : (x y : Signal) → Over x y → Over y x → x ≡ y
  pub carried_over : (i : ℕ) (x y : Signal) → x.step ≤ last_step → y.step ≤ last_step → Over x y → Over (carried b m i x) (carried b m i y)
  pub in_time : (x y : Signal) → Over x y → AsBad o (pos x.time) (pos y.time)

pub covers_prunes : (b : Block) (m : Meaning) (o : Order) → models.Lawful m → senses.Lawful o → Prunes b m o (Covers o)
covers_prunes b m o M L =
    record { transitive = covers_transitive o L; antisymmetric = covers_antisymmetric o L; carried_over = covers_carried o L b m M; in_time = λ x y c. c.in_time }

-- such a relation is carried along any run
pub prunes_along : (b : Block) (m : Meaning) (o : Order) (Over : Signal → Signal → Type 0) → models.Lawful m → Prunes b m o Over → (x y : Signal) (is : List ℕ) → x.step ≤ last_step → y.step ≤ last_step → Over x y → Over (along b m x is) (along b m y is)
prunes_along b m o Over M R x y [] h k c = c
prunes_along b m o Over M R x y (i ∷ is) h k c =
    prunes_along b m o Over M R (carried b m i x) (carried b m i y) is (M.output_step.fits _ _) (M.output_step.fits _ _) (R.carried_over i x y h k c)

pub covering_carried : (b : Block) (m : Meaning) (o : Order) → models.Lawful m → senses.Lawful o → CoveringCarried b m o
covering_carried b m o M L x y is h k c = prunes_along b m o (Covers o) M (covers_prunes b m o M L) x y is h k c
