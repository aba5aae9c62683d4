-- The meanings of the models are lawful. Assumes nothing.
use Rattle.std.specs.Prelude.{◌≡◌, ℕ, zero, suc, ◌*◌, ◌/◌, ◌<◌, ◌≤◌, ◌⊎◌, List, [], ◌∷◌, ◌++◌, map, length, get_or, slice_index_or, refl}
use Rattle.std.specs.List.{All}
use Rattle.std.proofs.Common.{sym, subst, inl, inr, zero-le, zero-mul, mul-le-mul_right, le_refl, not-suc-le-zero, arith, lit<}
use Rattle.std.proofs.lemmas.Bool.Decides.{nat_tests}
use Rattle.std.proofs.lemmas.List.{length-map, map-append, get_or_past}
use Rattle.std.proofs.lemmas.List.Elements.{All-map, All-from_get_or}
use Rattle.units.specs.Senses.{NeverFalls}
use Rattle.units.specs.Steps.{last_step}
use Rattle.models.specs.declared.point.Point.{Point}
use Rattle.models.specs.declared.curve.Curve.{Curve}
use Rattle.models.specs.Curves.{points_of, kinds_of}
use Rattle.models.specs.Derating.{derated}
use Rattle.models.specs.Kinds.{point_step, point_delay, point_output_step, RisesBy, AtMost, DelaysFit, figures_at, Interpolates, no_figures, kinds_meaning, points_meaning, FixedDelaysFit, FixedOutputStepsFit, fixed_figures, fixed_meaning}
use Rattle.models.specs.Meaning.{Meaning, LawfulFigure, Lawful, LawfulKind, max_kinds, max_delay, where_held}
use Rattle.models.specs.Between.{div_rises, interpolated_rises, interpolated_at_most, interpolated_between}

where_not_held : (count : ℕ) (figure : ℕ → ℕ → ℕ) (k s : ℕ) → count ≤ k → where_held count figure k s ≡ 0
where_not_held count figure k s h = grind (arith, nat_tests)

where_past_last : (count : ℕ) (figure : ℕ → ℕ → ℕ) (k s : ℕ) → last_step < s → where_held count figure k s ≡ 0
where_past_last count figure k s h = grind (arith, nat_tests)

pub where_absent : (count : ℕ) (figure : ℕ → ℕ → ℕ) (k s : ℕ) → (count ≤ k) ⊎ (last_step < s) → where_held count figure k s ≡ 0
where_absent count figure k s (inl h) = where_not_held count figure k s h
where_absent count figure k s (inr h) = where_past_last count figure k s h

pub where_both : (count : ℕ) (figure : ℕ → ℕ → ℕ) (k s : ℕ) → k < count → s ≤ last_step → where_held count figure k s ≡ figure k s
where_both count figure k s h i = grind (arith, nat_tests)

held_fits : (count top : ℕ) (figure : ℕ → ℕ → ℕ) (k s : ℕ) → (k < count → s ≤ last_step → figure k s ≤ top) → where_held count figure k s ≤ top
held_fits count top figure k s h = grind (arith, nat_tests, h)

held_rises : (count : ℕ) (figure : ℕ → ℕ → ℕ) (k s t : ℕ) → s ≤ t → t ≤ last_step → (k < count → figure k s ≤ figure k t) → where_held count figure k s ≤ where_held count figure k t
held_rises count figure k s t h i j = grind (arith, nat_tests, j)

-- a figure in its range that never falls is lawful where it is held
pub held_lawful : (count top : ℕ) (figure : ℕ → ℕ → ℕ) → ((k s : ℕ) → k < count → s ≤ last_step → figure k s ≤ top) → ((k : ℕ) → k < count → NeverFalls last_step (figure k)) → LawfulFigure count top (where_held count figure)
held_lawful count top figure fits rises = record {
  fits = λ k s. held_fits count top figure k s (fits k s);
  not_held = where_not_held count figure;
  past_last = where_past_last count figure;
  never_falls = λ k s t h i. held_rises count figure k s t h i (λ l. rises k l s t h i);
}

-- lawful kinds make a lawful model
pub kinds_lawful : (kinds : List (ℕ → ℕ × ℕ)) → length kinds ≤ max_kinds → All LawfulKind kinds → Lawful (kinds_meaning kinds)
kinds_lawful kinds few law = record {
  count_fits = few;
  delay = held_lawful (length kinds) max_delay (λ k s. (slice_index_or kinds k no_figures s).0)
      (λ k s l. (law k no_figures l).delay_fits s) (λ k l. (law k no_figures l).delay_rises);
  output_step = held_lawful (length kinds) last_step (λ k s. (slice_index_or kinds k no_figures s).1)
      (λ k s l. (law k no_figures l).output_step_fits s) (λ k l. (law k no_figures l).output_step_rises);
}

-- the same, of kinds whose figures follow from what they are given by
pub given_kinds_lawful : {K G : Type 0} (given : K → G) (figures : G → ℕ → ℕ × ℕ) → ((x : K) → LawfulKind (figures (given x))) → (kinds : List K) → length kinds ≤ max_kinds → Lawful (kinds_meaning (map figures (map given kinds)))
given_kinds_lawful given figures law kinds few =
    kinds_lawful (map figures (map given kinds)) (simp length-map few)
    (All-map LawfulKind figures (map given kinds) (All-map (λ y. LawfulKind (figures y)) given kinds (λ k d l. law (slice_index_or kinds k d))))

-- what holds of every place of a list, and of its default, holds after a push
pub pushed : {X : Type 0} (P : X → Type 0) (xs : List X) (y d : X) → ((k : ℕ) → P (slice_index_or xs k d)) → P y → P d → (k : ℕ) → P (slice_index_or (xs ++ y ∷ []) k d)
pushed P [] y d h py pd zero = py
pushed P [] y d h py pd (suc k) = pd
pushed P (x ∷ xs) y d h py pd zero = h 0
pushed P (x ∷ xs) y d h py pd (suc k) = pushed P xs y d (λ j. h (suc j)) py pd k

pub pushed_into : {X : Type 0} (P : X → Type 0) (xs zs : List X) (y d : X) → zs ≡ xs ++ y ∷ [] → ((k : ℕ) → P (slice_index_or xs k d)) → P y → P d → (k : ℕ) → P (slice_index_or zs k d)
pushed_into P xs zs y d e h py pd k = subst (λ l. P (slice_index_or l k d)) (sym e) (pushed P xs y d h py pd k)

-- kinds given by points

-- what the law of a kind rests on
pub record SoundKind (ps : List Point) : Type 0 where
  pub steps : RisesBy 1 point_step ps
  pub delays : RisesBy 0 point_delay ps
  pub output_steps : RisesBy 0 point_output_step ps
  pub delays_fit : DelaysFit ps
  pub output_steps_fit : AtMost last_step point_output_step ps

pub sound_lawful : (ps : List Point) → SoundKind ps → LawfulKind (figures_at ps)
sound_lawful ps sound = record {
  delay_fits = sound.delays_fit;
  output_step_fits = λ s _. interpolated_at_most point_output_step last_step ps s sound.output_steps sound.output_steps_fit;
  delay_rises = λ s t h _. interpolated_rises point_delay ps s t sound.steps sound.delays h;
  output_step_rises = λ s t h _. interpolated_rises point_output_step ps s t sound.steps sound.output_steps h;
}

-- the figures of a sound kind follow its rule
pub sound_interpolates : (ps : List Point) (s : ℕ) → SoundKind ps → Interpolates ps s (figures_at ps s)
sound_interpolates ps s sound i l lo hi = (
  interpolated_between point_delay ps i s sound.steps sound.delays l lo hi,
  interpolated_between point_output_step ps i s sound.steps sound.output_steps l lo hi,
)

pub points_lawful : (kinds : List (List Point)) → length kinds ≤ max_kinds → ((k : ℕ) → SoundKind (slice_index_or kinds k [])) → Lawful (points_meaning kinds)
points_lawful kinds few sound =
    kinds_lawful (map figures_at kinds) (simp length-map few)
    (All-map LawfulKind figures_at kinds (All-from_get_or (λ ps. LawfulKind (figures_at ps)) kinds [] (λ k l. sound_lawful (slice_index_or kinds k []) (sound k))))

pub sound_curve : (c : Curve) → SoundKind (points_of c)
sound_curve c = record { steps = c.steps; delays = c.delays; output_steps = c.output_steps; delays_fit = c.delays_fit; output_steps_fit = c.output_steps_fit }

pub sound_kinds : (curves : List Curve) (k : ℕ) → SoundKind (slice_index_or (kinds_of curves) k [])
sound_kinds [] k = record {
  steps = λ i l. absurd (not-suc-le-zero l);
  delays = λ i l. absurd (not-suc-le-zero l);
  output_steps = λ i l. absurd (not-suc-le-zero l);
  delays_fit = λ s l. zero-le;
  output_steps_fit = λ i l. absurd (not-suc-le-zero l);
}
sound_kinds (c ∷ curves) zero = sound_curve c
sound_kinds (c ∷ curves) (suc k) = sound_kinds curves k

pub kinds_push : (curves : List Curve) (c : Curve) → kinds_of (curves ++ c ∷ []) ≡ kinds_of curves ++ points_of c ∷ []
kinds_push curves c = map-append points_of curves (c ∷ [])

pub kinds_length : (curves : List Curve) → length (kinds_of curves) ≡ length curves
kinds_length curves = length-map curves points_of

-- a kind that is not held has no points, and no step past the last is asked for
pub absent_interpolates : (kinds : List (List Point)) (k s : ℕ) (figures : ℕ × ℕ) → (length kinds ≤ k) ⊎ (last_step < s) → s ≤ last_step → Interpolates (slice_index_or kinds k []) s figures
absent_interpolates kinds k s figures (inl h) le =
    let e : get_or kinds k [] ≡ [] = get_or_past kinds k [] h in
    subst (λ (ps : List Point). Interpolates ps s figures) (sym e) (λ i l. absurd (not-suc-le-zero l))
absent_interpolates kinds k s figures (inr h) le = absurd (omega arith)

-- kinds of fixed figures

pub fixed_kind_lawful : (kind : ℕ × ℕ) → kind.0 ≤ max_delay → kind.1 ≤ last_step → LawfulKind (fixed_figures kind)
fixed_kind_lawful kind delay output_step = record {
  delay_fits = λ s l. delay;
  output_step_fits = λ s l. output_step;
  delay_rises = λ s t h i. le_refl kind.0;
  output_step_rises = λ s t h i. le_refl kind.1;
}

pub fixed_lawful : (kinds : List (ℕ × ℕ)) → length kinds ≤ max_kinds → FixedDelaysFit kinds → FixedOutputStepsFit kinds → Lawful (fixed_meaning kinds)
fixed_lawful kinds few delays output_steps =
    kinds_lawful (map fixed_figures kinds) (simp length-map few)
    (All-map LawfulKind fixed_figures kinds (All-from_get_or (λ kind. LawfulKind (fixed_figures kind)) kinds (0, 0) (λ k l. fixed_kind_lawful (slice_index_or kinds k (0, 0)) (delays k) (output_steps k))))

-- derated models

scaled_rises : (percent : ℕ) {x y : ℕ} → x ≤ y → x * percent / 100 ≤ y * percent / 100
scaled_rises percent h = div_rises 100 (lit< tt) (mul-le-mul_right percent h)

pub derated_lawful : (percent : ℕ) (m : Meaning) → Lawful m → Lawful (derated percent m)
derated_lawful percent m l = record {
  count_fits = l.count_fits;
  delay = record {
    fits = λ k s. omega arith;
    not_held = λ k s h. let e : m.delay k s ≡ 0 = l.delay.not_held k s h in rw (e, zero-mul) refl;
    past_last = λ k s h. let e : m.delay k s ≡ 0 = l.delay.past_last k s h in rw (e, zero-mul) refl;
    never_falls = λ k s t h i. omega (arith, scaled_rises percent (l.delay.never_falls k s t h i));
  };
  output_step = l.output_step;
}
