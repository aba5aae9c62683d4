-- A net's row of required times, as the arcs out of the net are taken into it in turn. Assumes nothing.
use Rattle.std.proofs.Common.{◌≡◌, ℕ, ◌+◌, ◌<◌, ◌≤◌, ◌⊎◌, List, length, get_or, drop, set, replicate, ℤ, pos, ◌-ℤ◌, Some, None, Option, sym, refl, ap, ◌∙◌, subst, inl, inr, arith}
use native.Mathlib.Decide.{ℕ_discrete}
use Rattle.std.proofs.lemmas.List.{length-set, get_or-set_same, get_or-set_other, get_or-replicate}
use Rattle.std.proofs.lemmas.Bool.{cases_lt}
use Rattle.units.specs.Senses.{Order, Lawful}
use Rattle.units.specs.Steps.{step_count, last_step}
use Rattle.models.specs.Meaning.{Meaning}
use Rattle.paths.specs.declared.blocks.Arc.{Arc}
use Rattle.paths.specs.Blocks.{Block, no_arc, net_of, tail_of}
use Rattle.paths.specs.Slacks.{First, limit_at}
use Rattle.paths.specs.ArcByArc.{RequiredTable, RequiredByArcs}
use Rattle.std.proofs.lemmas.Option.{none-some, same_Some}
use Rattle.network.specs.FanOuts.{arcs_out}
use Rattle.network.proofs.FanOuts.{NextOut, next_listed, none_listed}
use Rattle.timing.specs.Areas.{figure}
use Rattle.timing.specs.RequiredRows.{as_figure, limit_figure, AsHard, HarderOf, less_delay, required_over, RowOver, RequiredRow}
use Rattle.timing.proofs.Figures.{limit_is}
use Rattle.timing.proofs.HarderTimes.{OrFigure, first_same, alone, harder_first}

-- what an arc requires: a required time of its head, less the delay
module _ (m : Meaning) (R : RequiredTable) (arc : Arc) (s : ℕ) (r : ℤ) where
  pub over_is : required_over m R arc s ≡ Some r → (q : ℤ) × (R arc.head (m.output_step arc.kind s) ≡ Some q) × (r ≡ q -ℤ pos (m.delay arc.kind s))
  over_is = go (R arc.head (m.output_step arc.kind s)) refl
    where
      go : (x : Option ℤ) → R arc.head (m.output_step arc.kind s) ≡ x → less_delay x (m.delay arc.kind s) ≡ Some r → (q : ℤ) × (R arc.head (m.output_step arc.kind s) ≡ Some q) × (r ≡ q -ℤ pos (m.delay arc.kind s))
      go None f h = absurd (none-some r h)
      go (Some q) f h = (q, f, sym (same_Some (q -ℤ pos (m.delay arc.kind s)) r h))

  pub is_over : (q : ℤ) → R arc.head (m.output_step arc.kind s) ≡ Some q → r ≡ q -ℤ pos (m.delay arc.kind s) → required_over m R arc s ≡ Some r
  is_over q e g = ap (λ (x : Option ℤ). less_delay x (m.delay arc.kind s)) e ∙ ap Some (sym g)

-- one arc, step by step: the first k steps of the row hold the harder, the others what they held
pub record OverBelow (m : Meaning) (o : Order) (R : RequiredTable) (arc : Arc) (k : ℕ) (was is : List ℤ) : Type 0 where
  pub long : length is ≡ length was
  pub done : (s : ℕ) → s < k → HarderOf o (figure (get_or was s (pos 0))) (required_over m R arc s) (figure (get_or is s (pos 0)))
  pub left : (s : ℕ) → k ≤ s → get_or is s (pos 0) ≡ get_or was s (pos 0)

module _ (m : Meaning) (o : Order) (R : RequiredTable) (arc : Arc) (was : List ℤ) where
  -- before the first step the row is as it was
  pub over_none : OverBelow m o R arc 0 was was
  over_none = record { long = refl; done = λ s h. absurd (omega arith); left = λ s h. refl }

  -- one step more
  pub over_more : (k : ℕ) (is : List ℤ) (w : ℤ) → k < length is → HarderOf o (figure (get_or is k (pos 0))) (required_over m R arc k) (figure w) → OverBelow m o R arc k was is → OverBelow m o R arc (k + 1) was (set is k w)
  over_more k is w within harder O = record {
    long = length-set is k w ∙ O.long;
    done = λ s h. elim (ℕ_discrete s k) [
      | yes q ↦ subst (λ (v : ℕ). HarderOf o (figure (get_or was v (pos 0))) (required_over m R arc v) (figure (get_or (set is k w) v (pos 0)))) (sym q) here
      | no ne ↦ subst (λ (z : ℤ). HarderOf o (figure (get_or was s (pos 0))) (required_over m R arc s) (figure z)) (sym (get_or-set_other is k s w (pos 0) ne)) (O.done s (omega arith))
    ];
    left = λ s h. get_or-set_other is k s w (pos 0) (other s h) ∙ O.left s (omega arith);
  }
    where
      other : (s : ℕ) → k + 1 ≤ s → ¬ (s ≡ k)
      other s h q = omega arith

      here : HarderOf o (figure (get_or was k (pos 0))) (required_over m R arc k) (figure (get_or (set is k w) k (pos 0)))
      here =
          subst (λ (z : ℤ). HarderOf o (figure (get_or was k (pos 0))) (required_over m R arc k) (figure z)) (sym (get_or-set_same is k w (pos 0) within))
          (subst (λ (z : ℤ). HarderOf o (figure z) (required_over m R arc k) (figure w)) (O.left k (omega arith)) harder)

  -- after the last step
  pub over_all : (k : ℕ) (is : List ℤ) → step_count ≤ k → OverBelow m o R arc k was is → RowOver m o R arc was is
  over_all k is h O s fits = O.done s (omega arith)

-- the limit, or what an arc out of the net with a number below k requires
abbrev pub RequiredBelow : Meaning → RequiredTable → List Arc → Option ℤ → ℕ → ℕ → ℕ → ℤ → Type 0
RequiredBelow m R arcs limit n s k r =
    (limit ≡ Some r) ⊎ ((j : ℕ) × (j < k) × (j < length arcs) × (tail_of arcs j ≡ n) × (required_over m R (get_or arcs j no_arc) s ≡ Some r))

-- these are taken into the row, and from a place on the list holds the arcs out of the net with other numbers
pub record TakenBefore (m : Meaning) (o : Order) (R : RequiredTable) (arcs : List Arc) (limit : Option ℤ) (n : ℕ) (list : List ℕ) (at : ℕ) (row : List ℤ) : Type 0 where
  pub next : ℕ
  pub left : drop at list ≡ arcs_out (drop next arcs) n next
  pub hardest : (s : ℕ) → s ≤ last_step → First (AsHard o) (RequiredBelow m R arcs limit n s next) (figure (get_or row s (pos 0)))

module _ (m : Meaning) (o : Order) (law : Lawful o) (R : RequiredTable) (arcs : List Arc) (limit : Option ℤ) (n : ℕ) (list : List ℕ) where
  -- the row is the limit at each step, and all the arcs are left
  pub taken_none : (entry : ℤ) → list ≡ arcs_out arcs n 0 → figure entry ≡ limit → TakenBefore m o R arcs limit n list 0 (replicate step_count entry)
  taken_none entry all e = record {
    next = 0;
    left = all;
    hardest = λ s fits.
        subst (First (AsHard o) (RequiredBelow m R arcs limit n s 0)) (sym (ap figure (get_or-replicate step_count s entry (pos 0) (omega arith)) ∙ e))
        (first_same (AsHard o) (λ z. limit ≡ Some z) (RequiredBelow m R arcs limit n s 0) (λ z h. inl h) (λ z. elim [ inl h ↦ h | inr h ↦ absurd (none_below h.0 h.1) ]) limit (alone o law limit));
  }
    where
      none_below : (j : ℕ) → ¬ (j < 0)
      none_below j h = omega arith

  module _ (at : ℕ) (row : List ℤ) (T : TakenBefore m o R arcs limit n list at row) (lt : at < length list) where
    abbrev arc : ℕ
    arc = get_or list at 0

    pub next_arc : NextOut arcs n T.next arc (drop (at + 1) list)
    next_arc = next_listed arcs n T.next at list lt T.left

    -- one arc more
    pub taken_more : (row' : List ℤ) → RowOver m o R (get_or arcs arc no_arc) row row' → TakenBefore m o R arcs limit n list (at + 1) row'
    taken_more row' over = record {
      next = arc + 1;
      left = next_arc.4;
      hardest = λ s fits.
          first_same (AsHard o) (OrFigure (RequiredBelow m R arcs limit n s T.next) (required_over m R (get_or arcs arc no_arc) s)) (RequiredBelow m R arcs limit n s (arc + 1)) (into s) (back s) (figure (get_or row' s (pos 0)))
          (harder_first o law (RequiredBelow m R arcs limit n s T.next) (figure (get_or row s (pos 0))) (required_over m R (get_or arcs arc no_arc) s) (figure (get_or row' s (pos 0))) (over s fits) (T.hardest s fits));
    }
      where
        into : (s : ℕ) (r : ℤ) → OrFigure (RequiredBelow m R arcs limit n s T.next) (required_over m R (get_or arcs arc no_arc) s) r → RequiredBelow m R arcs limit n s (arc + 1) r
        into s r (inl (inl e)) = inl e
        into s r (inl (inr (j, h, is-arc, from, e))) = inr (j, omega (arith, next_arc.0), is-arc, from, e)
        into s r (inr e) = inr (arc, omega arith, next_arc.1, next_arc.2, e)

        back : (s : ℕ) (r : ℤ) → RequiredBelow m R arcs limit n s (arc + 1) r → OrFigure (RequiredBelow m R arcs limit n s T.next) (required_over m R (get_or arcs arc no_arc) s) r
        back s r (inl e) = inl (inl e)
        back s r (inr (j, h, is-arc, from, e)) = elim (ℕ_discrete j arc) [
          | yes q ↦ inr (ap (λ (k : ℕ). required_over m R (get_or arcs k no_arc) s) (sym q) ∙ e)
          | no q ↦ elim (cases_lt j T.next) [
            | inl low ↦ inl (inr (j, low, is-arc, from, e))
            | inr ge ↦ let least = next_arc.3 j ge is-arc from in absurd (omega arith)
          ]
        ]

-- when none is left the row is the net's
pub taken_all : (b : Block) (m : Meaning) (o : Order) (R : RequiredTable) (n : ℕ) (list : List ℕ) (at : ℕ) (row : List ℤ) → length list ≤ at → TakenBefore m o R b.arcs (limit_figure o (net_of b n)) n list at row → RequiredRow b m o R n row
taken_all b m o R n list at row past T s fits =
    first_same (AsHard o) (RequiredBelow m R b.arcs (limit_figure o (net_of b n)) n s T.next) (RequiredByArcs b m o R n s) into back (figure (get_or row s (pos 0))) (T.hardest s fits)
  where
    into : (r : ℤ) → RequiredBelow m R b.arcs (limit_figure o (net_of b n)) n s T.next r → RequiredByArcs b m o R n s r
    into r (inl e) = inl (limit_is (limit_at b o n) r e)
    into r (inr (j, h, is-arc, from, e)) =
        let (q, eq, er) = over_is m R (get_or b.arcs j no_arc) s r e in
        inr (j, q, is-arc, from, eq, er)

    back : (r : ℤ) → RequiredByArcs b m o R n s r → RequiredBelow m R b.arcs (limit_figure o (net_of b n)) n s T.next r
    back r (inl (limit, e, er)) = inl (ap as_figure e ∙ ap Some (sym er))
    back r (inr (j, q, is-arc, from, eq, er)) = elim (cases_lt j T.next) [
      | inl low ↦ inr (j, low, is-arc, from, is_over m R (get_or b.arcs j no_arc) s r q eq er)
      | inr ge ↦ absurd (none_listed b.arcs n T.next at list past T.left j ge is-arc from)
    ]
