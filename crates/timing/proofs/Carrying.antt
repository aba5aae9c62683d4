-- Signals carried over one step more, and over one arc more of a net's fan-out. Assumes nothing.
use Rattle.std.proofs.Common.{◌≡◌, ℕ, ◌+◌, ◌*◌, ◌<◌, ◌≤◌, Bool, cond, eqb, ◌⊎◌, List, length, get_or, drop, sym, refl, ap, ◌∙◌, inl, inr, arith}
use native.Mathlib.Decide.{ℕ_discrete}
use Rattle.std.proofs.lemmas.Bool.{cases_lt, eq-eqb, ne_eqb}
use Rattle.units.specs.Senses.{Order}
use Rattle.units.specs.Senses as senses
use Rattle.units.specs.Steps.{step_count, last_step}
use Rattle.models.specs.Meaning.{Meaning}
use Rattle.paths.specs.declared.blocks.Arc.{Arc}
use Rattle.paths.specs.Blocks.{tail_of, no_arc}
use Rattle.paths.specs.ArcByArc.{one_if_some}
use Rattle.network.specs.FanOuts.{arcs_out}
use Rattle.network.proofs.FanOuts.{NextOut, next_listed, none_listed}
use Rattle.timing.specs.declared.answers.SignalRecord.{SignalRecord}
use Rattle.timing.specs.Areas.{held_by}
use Rattle.timing.specs.Offers.{Records, AfterOffers, StepOffer, ArcOffers, FanOutOffers, kept_below, carried_out, RowBy}
use Rattle.timing.proofs.Offering.{after_both, after_same, after_none, none_offered}
use Rattle.timing.proofs.CarriedSums.{sum_more, sum_stays, kept_same, carried_at_most}

-- a net that is not the head keeps its row
pub row_kept : (o : Order) (m : Meaning) (a : Arc) (i k : ℕ) (A B : Records) → AfterOffers o (ArcOffers m a i k A) A B → (h s : ℕ) → s ≤ last_step → ¬ (h ≡ a.head) → B h s ≡ A h s
row_kept o m a i k A B W h s ls ne = none_offered o (ArcOffers m a i k A h s) (A h s) (B h s) (W h s ls) (λ e p. ne p.2.0)

-- where the tail has the same signal, the same is offered
step_same : (m : Meaning) (a : Arc) (i u : ℕ) (A B : Records) → B a.tail u ≡ A a.tail u → (h s : ℕ) (e : SignalRecord) → StepOffer m a i u B h s e → StepOffer m a i u A h s e
step_same m a i u A B same h s e p =
    rw same at p

-- before the first step nothing is offered
pub no_steps : (o : Order) (L : senses.Lawful o) (m : Meaning) (a : Arc) (i : ℕ) (A : Records) → AfterOffers o (ArcOffers m a i 0 A) A A
no_steps o L m a i A = after_none o L (ArcOffers m a i 0 A) A (λ n s e p. let lt = p.1 in omega arith)

-- one step more
pub step_more : (o : Order) (L : senses.Lawful o) (m : Meaning) (a : Arc) (i k : ℕ) (A B C : Records) → ¬ (a.tail ≡ a.head) → k ≤ last_step → AfterOffers o (ArcOffers m a i k A) A B → AfterOffers o (StepOffer m a i k B) B C → AfterOffers o (ArcOffers m a i (k + 1) A) A C
step_more o L m a i k A B C ne lk W V =
    after_same o (λ n s e. ArcOffers m a i k A n s e ⊎ StepOffer m a i k B n s e) (ArcOffers m a i (k + 1) A) A C into back (after_both o L (ArcOffers m a i k A) (StepOffer m a i k B) A B C W V)
  where
    same : B a.tail k ≡ A a.tail k
    same = row_kept o m a i k A B W a.tail k lk ne

    into : (n s : ℕ) (e : SignalRecord) → ArcOffers m a i k A n s e ⊎ StepOffer m a i k B n s e → ArcOffers m a i (k + 1) A n s e
    into n s e (inl p) = let lt = p.1 in (p.0, omega arith, p.2)
    into n s e (inr p) = (k, omega arith, step_same m a i k A B same n s e p)

    back : (n s : ℕ) (e : SignalRecord) → ArcOffers m a i (k + 1) A n s e → ArcOffers m a i k A n s e ⊎ StepOffer m a i k B n s e
    back n s e p = let (u, lt, q) = p in
        elim (ℕ_discrete u k) [
          | yes x ↦ inr (step_same m a i k B A (sym same) n s e (rw x at q))
          | no x ↦ inl (u, omega arith, q)
        ]

-- and the signals that were carried with it
pub step_counted : (A B : Records) (n k c r : ℕ) → B n k ≡ A n k → c ≡ kept_below A n k → r ≡ one_if_some (held_by (B n k)) → c + r ≡ kept_below A n (k + 1)
step_counted A B n k c r same p q =
    let x : one_if_some (held_by (B n k)) ≡ one_if_some (held_by (A n k)) = ap (λ (z : SignalRecord). one_if_some (held_by z)) same in
    omega (arith, sum_more (λ s. one_if_some (held_by (A n s))) k)

-- Of the steps at the tail of an arc those below k are done, and c signals were carried.
pub record StepsDone (o : Order) (m : Meaning) (a : Arc) (i k c : ℕ) (A B : Records) : Type 0 where
  pub offers : AfterOffers o (ArcOffers m a i k A) A B
  pub counted : c ≡ kept_below A a.tail k

-- one step more is done
pub next_step : {o : Order} {m : Meaning} {a : Arc} {i k c : ℕ} {A B : Records} → StepsDone o m a i k c A B → ¬ (a.tail ≡ a.head) → k ≤ last_step → senses.Lawful o → {r : ℕ} {C : Records} → AfterOffers o (StepOffer m a i k B) B C → r ≡ one_if_some (held_by (B a.tail k)) → StepsDone o m a i (k + 1) (c + r) A C
next_step {o} {m} {a} {i} {k} {c} {A} {B} W ne lk L {r} {C} V er =
    record {
      offers = step_more o L m a i k A B C ne lk W.offers V;
      counted = step_counted A B a.tail k c r (row_kept o m a i k A B W.offers a.tail k lk ne) W.counted er;
    }

-- On the way along the list of the arcs out of a net, as far as place `at`: those below k are done, and c signals were carried.
pub record AtArc (o : Order) (m : Meaning) (arcs : List Arc) (n : ℕ) (list : List ℕ) (at c : ℕ) (A B : Records) : Type 0 where
  pub k : ℕ
  pub within : k ≤ length arcs
  pub left : drop at list ≡ arcs_out (drop k arcs) n k
  pub offers : AfterOffers o (FanOutOffers m arcs n k A) A B
  pub counted : c ≡ carried_out arcs A n k
  pub row : (s : ℕ) → s ≤ last_step → B n s ≡ A n s

-- at the front of the list nothing is carried yet
pub first_arc : (o : Order) (L : senses.Lawful o) (m : Meaning) (arcs : List Arc) (n : ℕ) (list : List ℕ) (A : Records) → list ≡ arcs_out arcs n 0 → AtArc o m arcs n list 0 0 A A
first_arc o L m arcs n list A all =
    record {
      k = 0;
      within = omega arith;
      left = all;
      offers = after_none o L (FanOutOffers m arcs n 0 A) A (λ h s e p. let lt = p.1 in omega arith);
      counted = refl;
      row = λ s ls. refl;
    }

module _ {o : Order} {m : Meaning} {arcs : List Arc} {n : ℕ} {list : List ℕ} {at c : ℕ} {A B : Records} (W : AtArc o m arcs n list at c A B) where
  not_counted : (j : ℕ) → ¬ (tail_of arcs j ≡ n) → cond (eqb (tail_of arcs j) n) (kept_below A (tail_of arcs j) step_count) 0 ≡ 0
  not_counted j ne = ap (λ (t : Bool). cond t (kept_below A (tail_of arcs j) step_count) 0) (ne_eqb (tail_of arcs j) n ne)

  pub carried_fits : c ≤ step_count * length arcs
  carried_fits =
      let within = W.within in
      let counted = W.counted in
      let most = carried_at_most arcs A (λ t. eqb t n) W.k in
      omega arith

  -- the arc at this place of the list
  module _ (lt : at < length list) where
    abbrev number : ℕ
    number = get_or list at 0

    abbrev arc : Arc
    arc = get_or arcs number no_arc

    -- is the lowest out of the net of those that are not done
    pub lowest : NextOut arcs n W.k number (drop (at + 1) list)
    lowest = next_listed arcs n W.k at list lt W.left

    pub in_arcs : number < length arcs
    in_arcs = lowest.1

    pub arc_tail : arc.tail ≡ n
    arc_tail = lowest.2

    none_before : (j : ℕ) → W.k ≤ j → j < number → ¬ (tail_of arcs j ≡ n)
    none_before j ge below t = let in_list = in_arcs in let le = lowest.3 j ge (omega arith) t in omega arith

    same : (u : ℕ) → u ≤ last_step → B arc.tail u ≡ A arc.tail u
    same u lu = rw arc_tail (W.row u lu)

    pub row_by : (latest : ℕ) → RowBy A n latest → RowBy B arc.tail latest
    row_by latest by s ls = rw (same s ls, arc_tail) (by s ls)

    module _ (L : senses.Lawful o) {r : ℕ} {C : Records} (apart : ¬ (arc.tail ≡ arc.head)) (V : AfterOffers o (ArcOffers m arc number step_count B) B C) (er : r ≡ kept_below B arc.tail step_count) where
      into_more : (h s : ℕ) (e : SignalRecord) → FanOutOffers m arcs n W.k A h s e ⊎ ArcOffers m arc number step_count B h s e → FanOutOffers m arcs n (number + 1) A h s e
      into_more h s e (inl p) = let lj = p.1 in let ge = lowest.0 in (p.0, omega arith, p.2, p.3)
      into_more h s e (inr p) = let lu = p.1 in (number, omega arith, arc_tail, (p.0, p.1, step_same m arc number p.0 A B (same p.0 (omega arith)) h s e p.2))

      back_from : (h s : ℕ) (e : SignalRecord) → FanOutOffers m arcs n (number + 1) A h s e → FanOutOffers m arcs n W.k A h s e ⊎ ArcOffers m arc number step_count B h s e
      back_from h s e p =
          let (j, lj, t, q) = p in
          elim (ℕ_discrete j number) [
            | yes x ↦ inr (let (u, lu, z) = rw x at q in (u, lu, step_same m arc number u B A (sym (same u (omega arith))) h s e z))
            | no x ↦ elim (cases_lt j W.k) [
              | inl before ↦ inl (j, before, t, q)
              | inr ge ↦ absurd (none_before j ge (omega arith) t)
            ]
          ]

      more : c + r ≡ carried_out arcs A n (number + 1)
      more =
          let f : ℕ → ℕ = λ j. cond (eqb (tail_of arcs j) n) (kept_below A (tail_of arcs j) step_count) 0 in
          let stays : carried_out arcs A n number ≡ carried_out arcs A n W.k = sum_stays f W.k number lowest.0 (λ j ge lj. not_counted j (none_before j ge lj)) in
          let here : f number ≡ kept_below A arc.tail step_count = ap (λ (t : Bool). cond t (kept_below A arc.tail step_count) 0) (eq-eqb arc.tail n arc_tail) in
          let row : kept_below B arc.tail step_count ≡ kept_below A arc.tail step_count = kept_same A B arc.tail step_count (λ s ls. same s (omega arith)) in
          ap (λ (w : ℕ). w + r) (W.counted ∙ sym stays) ∙ ap (λ (w : ℕ). carried_out arcs A n number + w) (er ∙ row ∙ sym here) ∙ sym (sum_more f number)

      pub next_arc : AtArc o m arcs n list (at + 1) (c + r) A C
      next_arc =
          let below = in_arcs in
          record {
            k = number + 1;
            within = omega arith;
            left = lowest.4;
            offers = after_same o (λ h s e. FanOutOffers m arcs n W.k A h s e ⊎ ArcOffers m arc number step_count B h s e) (FanOutOffers m arcs n (number + 1) A) A C into_more back_from (after_both o L (FanOutOffers m arcs n W.k A) (ArcOffers m arc number step_count B) A B C W.offers V);
            counted = more;
            row = λ s ls. row_kept o m arc number step_count B C V n s ls (λ q. apart (arc_tail ∙ q)) ∙ W.row s ls;
          }

  -- at the end of the list all arcs out of the net are done
  module _ (end : length list ≤ at) where
    pub none_left : (j : ℕ) → W.k ≤ j → j < length arcs → ¬ (tail_of arcs j ≡ n)
    none_left j ge lj = none_listed arcs n W.k at list end W.left j ge lj

    pub last_offers : AfterOffers o (FanOutOffers m arcs n (length arcs) A) A B
    last_offers =
        after_same o (FanOutOffers m arcs n W.k A) (FanOutOffers m arcs n (length arcs) A) A B
        (λ h s e p. let lj = p.1 in let le = W.within in (p.0, omega arith, p.2, p.3))
        (λ h s e p. let (j, lj, t, q) = p in elim (cases_lt j W.k) [ inl before ↦ (j, before, t, q) | inr ge ↦ absurd (none_left j ge lj t) ])
        W.offers

    pub last_counted : c ≡ carried_out arcs A n (length arcs)
    last_counted =
        W.counted ∙ sym (sum_stays (λ j. cond (eqb (tail_of arcs j) n) (kept_below A (tail_of arcs j) step_count) 0) W.k (length arcs) W.within (λ j ge lj. not_counted j (none_left j ge lj)))
