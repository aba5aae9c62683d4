-- Records after offers: none, one, and one set of offers after another. Assumes nothing.
use Rattle.std.proofs.Common.{◌≡◌, ℕ, ◌+◌, ◌<◌, ◌≤◌, Bool, true, false, cond, ◌&&◌, ◌⊎◌, List, length, get_or, set, pos, Some, None, sym, refl, ap, ◌∙◌, subst, inl, inr, true≢false, arith}
use native.Mathlib.Decide.{ℕ_discrete}
use Rattle.std.proofs.lemmas.Bool.{cases_Bool, cases_lt}
use Rattle.std.proofs.lemmas.Option.{none-some, same_Some}
use Rattle.units.specs.Senses.{Order, AsBad}
use Rattle.units.specs.Senses as senses
use Rattle.units.specs.Steps.{last_step, longest_transition, RoundedUp}
use Rattle.models.specs.Meaning.{Meaning}
use Rattle.paths.specs.declared.blocks.Arc.{Arc}
use Rattle.paths.specs.declared.blocks.Launch.{Launch}
use Rattle.paths.proofs.Covering.{as_bad_refl}
use Rattle.timing.specs.declared.answers.SignalRecord.{SignalRecord}
use Rattle.timing.specs.Areas.{place, record_at, no_signal}
use Rattle.timing.specs.Passes.{launched_mark}
use Rattle.timing.specs.Offers.{Records, worse_of, WorstOf, Offers, AfterOffers, kept_record, LaunchOffer, StepOffer}
use Rattle.timing.proofs.RecordWrites.{record_written, record_elsewhere}

-- a test does not both hold and fail
pub not_both : (b : Bool) → b ≡ true → b ≡ false → ⊥
not_both b p q = true≢false (sym p ∙ q)

-- the same offers in other words
pub worst_of_same : (o : Order) (P Q : SignalRecord → Type 0) (was is : SignalRecord) → ((e : SignalRecord) → P e → Q e) → ((e : SignalRecord) → Q e → P e) → WorstOf o P was is → WorstOf o Q was is
worst_of_same o P Q was is there back W =
    record {
      source = λ k. elim (W.source k) [ inl e ↦ inl e | inr p ↦ inr (there is p) ];
      old = W.old;
      new = λ e q. W.new e (back e q);
      not_kept = W.not_kept;
    }

pub after_same : (o : Order) (P Q : Offers) (A B : Records) → ((n s : ℕ) (e : SignalRecord) → P n s e → Q n s e) → ((n s : ℕ) (e : SignalRecord) → Q n s e → P n s e) → AfterOffers o P A B → AfterOffers o Q A B
after_same o P Q A B there back W n s ls = worst_of_same o (P n s) (Q n s) (A n s) (B n s) (there n s) (back n s) (W n s ls)

-- a record stays, or is one of the offers
pub same_or_offered : {o : Order} {P : SignalRecord → Type 0} {was is : SignalRecord} → WorstOf o P was is → (is ≡ was) ⊎ P is
same_or_offered {is = is} W = elim (cases_Bool is.kept) [ inl e ↦ W.source e | inr e ↦ inl (W.not_kept e) ]

-- where nothing is offered, nothing changes
pub none_offered : (o : Order) (P : SignalRecord → Type 0) (was is : SignalRecord) → WorstOf o P was is → ((e : SignalRecord) → ¬ P e) → is ≡ was
none_offered o P was is W none = elim (same_or_offered W) [ inl q ↦ q | inr p ↦ absurd (none is p) ]

-- one record, offered to one net and step
abbrev pub OneOffer : ℕ → ℕ → SignalRecord → Offers
OneOffer n s new h u e = (h ≡ n) × (u ≡ s) × (e ≡ new)

module _ (o : Order) (L : senses.Lawful o) where
  -- nothing is offered
  pub worst_of_none : (P : SignalRecord → Type 0) (was is : SignalRecord) → is ≡ was → ((e : SignalRecord) → ¬ P e) → WorstOf o P was is
  worst_of_none P was is same none =
      record {
        source = λ k. inl same;
        old = λ k. (ap (λ (z : SignalRecord). z.kept) same ∙ k, subst (λ (z : SignalRecord). AsBad o (pos z.time) (pos was.time)) (sym same) (as_bad_refl o L (pos was.time)));
        new = λ e p. absurd (none e p);
        not_kept = λ k. same;
      }

  pub worst_of_then : (P Q : SignalRecord → Type 0) (a b c : SignalRecord) → WorstOf o P a b → WorstOf o Q b c → WorstOf o (λ e. P e ⊎ Q e) a c
  worst_of_then P Q a b c W V = record { source = source; old = old; new = new; not_kept = not_kept }
    where
      source : c.kept ≡ true → (c ≡ a) ⊎ (P c ⊎ Q c)
      source k = elim (V.source k) [
        | inr q ↦ inr (inr q)
        | inl e ↦ elim (W.source (let same = sym e in cc)) [
          | inl f ↦ inl (e ∙ f)
          | inr p ↦ inr (inl (rw e p))
        ]
      ]

      old : a.kept ≡ true → (c.kept ≡ true) × AsBad o (pos c.time) (pos a.time)
      old k =
          let w = W.old k in
          let v = V.old w.0 in
          (v.0, L.transitive (pos c.time) (pos b.time) (pos a.time) v.1 w.1)

      new : (e : SignalRecord) → P e ⊎ Q e → (c.kept ≡ true) × AsBad o (pos c.time) (pos e.time)
      new e (inl p) =
          let w = W.new e p in
          let v = V.old w.0 in
          (v.0, L.transitive (pos c.time) (pos b.time) (pos e.time) v.1 w.1)
      new e (inr q) = V.new e q

      not_kept : c.kept ≡ false → c ≡ a
      not_kept k = let e = V.not_kept k in e ∙ W.not_kept (let same = sym e in cc)

  -- one record is offered
  pub worst_of_one : (old new : SignalRecord) → new.kept ≡ true → WorstOf o (λ e. e ≡ new) old (worse_of o old new)
  worst_of_one old new kept = go old.kept (o.as_bad (pos old.time) (pos new.time)) refl refl
    where
      stays : old.kept ≡ true → AsBad o (pos old.time) (pos new.time) → WorstOf o (λ e. e ≡ new) old old
      stays k worse =
          record {
            source = λ x. inl refl;
            old = λ x. (x, as_bad_refl o L (pos old.time));
            new = λ e q. (k, subst (λ (z : SignalRecord). AsBad o (pos old.time) (pos z.time)) (sym q) worse);
            not_kept = λ x. refl;
          }

      gives_way : (old.kept ≡ true → AsBad o (pos new.time) (pos old.time)) → WorstOf o (λ e. e ≡ new) old new
      gives_way worse =
          record {
            source = λ x. inr refl;
            old = λ x. (kept, worse x);
            new = λ e q. (kept, subst (λ (z : SignalRecord). AsBad o (pos new.time) (pos z.time)) (sym q) (as_bad_refl o L (pos new.time)));
            not_kept = λ x. absurd (not_both new.kept kept x);
          }

      go : (k w : Bool) → old.kept ≡ k → o.as_bad (pos old.time) (pos new.time) ≡ w → WorstOf o (λ e. e ≡ new) old (cond (k && w) old new)
      go true true ek ew = stays ek ew
      go true false ek ew = gives_way (λ x. elim (L.total (pos old.time) (pos new.time)) [ inl c ↦ absurd (not_both _ c ew) | inr c ↦ c ])
      go false true ek ew = gives_way (λ x. absurd (not_both old.kept x ek))
      go false false ek ew = gives_way (λ x. absurd (not_both old.kept x ek))

  -- nothing is offered to any net and step
  pub after_none : (P : Offers) (A : Records) → ((n s : ℕ) (e : SignalRecord) → ¬ P n s e) → AfterOffers o P A A
  after_none P A none n s ls = worst_of_none (P n s) (A n s) (A n s) refl (none n s)

  pub after_both : (P Q : Offers) (A B C : Records) → AfterOffers o P A B → AfterOffers o Q B C → AfterOffers o (λ n s e. P n s e ⊎ Q n s e) A C
  after_both P Q A B C W V n s ls = worst_of_then (P n s) (Q n s) (A n s) (B n s) (C n s) (W n s ls) (V n s ls)

  -- one record is offered to one net and step
  pub after_one : (area : List SignalRecord) (n s : ℕ) (new : SignalRecord) → s ≤ last_step → place n s < length area → new.kept ≡ true → AfterOffers o (OneOffer n s new) (record_at area) (record_at (set area (place n s) (worse_of o (get_or area (place n s) no_signal) new)))
  after_one area n s new ls fits kept h u lu =
      elim (ℕ_discrete h n) [
        | no e ↦ elsewhere (λ eh. absurd (e eh))
        | yes eh ↦ elim (ℕ_discrete u s) [
          | no e ↦ elsewhere (λ x. e)
          | yes eu ↦ subst (λ (k : ℕ). At k u) (sym eh) (subst (λ (k : ℕ). At n k) (sym eu) here)
        ]
      ]
    where
      next : List SignalRecord
      next = set area (place n s) (worse_of o (get_or area (place n s) no_signal) new)

      At : ℕ → ℕ → Type 0
      At k v = WorstOf o (OneOffer n s new k v) (record_at area k v) (record_at next k v)

      elsewhere : ((h ≡ n) → ¬ (u ≡ s)) → At h u
      elsewhere ne = worst_of_none (OneOffer n s new h u) (record_at area h u) (record_at next h u) (record_elsewhere area n s _ h u ls lu ne) (λ e p. ne p.0 p.1)

      written : WorstOf o (λ e. e ≡ new) (record_at area n s) (record_at next n s)
      written = subst (λ (z : SignalRecord). WorstOf o (λ e. e ≡ new) (record_at area n s) z) (sym (record_written area n s _ fits)) (worst_of_one (get_or area (place n s) no_signal) new kept)

      here : At n s
      here = worst_of_same o (λ e. e ≡ new) (OneOffer n s new n s) (record_at area n s) (record_at next n s) (λ e q. (refl, refl, q)) (λ e p. p.2) written

  -- a signal that is carried over an arc and offered to the head
  pub after_step : (m : Meaning) (a : Arc) (number step output : ℕ) (area next : List SignalRecord) (new : SignalRecord) → (record_at area a.tail step).kept ≡ true → output ≡ m.output_step a.kind step → output ≤ last_step → place a.head output < length area → new ≡ kept_record ((record_at area a.tail step).time + m.delay a.kind step) number step → next ≡ set area (place a.head output) (worse_of o (get_or area (place a.head output) no_signal) new) → AfterOffers o (StepOffer m a number step (record_at area)) (record_at area) (record_at next)
  after_step m a number step output area next new kept eo lo fits en written =
      after_same o (OneOffer a.head output new) (StepOffer m a number step (record_at area)) (record_at area) (record_at next)
      (λ n s e p. (p.0, kept, p.1 ∙ eo, p.2 ∙ en))
      (λ n s e p. (p.0, p.2 ∙ sym eo, p.3 ∙ sym en))
      (subst (λ (l : List SignalRecord). AfterOffers o (OneOffer a.head output new) (record_at area) (record_at l)) (sym written) (after_one area a.head output new lo fits (ap (λ (z : SignalRecord). z.kept) en)))

-- a transition is rounded up to one step
rounded_least : (t s s' : ℕ) → RoundedUp t s → RoundedUp t s' → s ≤ s'
rounded_least t s s' r r' = elim (cases_lt s' s) [
  | inr le ↦ le
  | inl lt ↦ elim (cases_lt longest_transition t) [
    | inl long ↦ let e = r.too_long long in let e' = r'.too_long long in omega arith
    | inr fits ↦ let above = r'.reaches fits in let below = r.smallest s' lt in absurd (omega arith)
  ]
]

-- and to no other
pub rounded_unique : (t s s' : ℕ) → RoundedUp t s → RoundedUp t s' → s ≡ s'
rounded_unique t s s' r r' =
    let le = rounded_least t s s' r r' in
    let ge = rounded_least t s' s r' r in
    omega arith

-- a launch that is offered to its net
pub after_launch : (o : Order) (L : senses.Lawful o) (l : Launch) (n s : ℕ) (area next : List SignalRecord) → RoundedUp l.transition s → place n s < length area → next ≡ set area (place n s) (worse_of o (get_or area (place n s) no_signal) (kept_record l.time launched_mark 0)) → AfterOffers o (LaunchOffer (Some l) n) (record_at area) (record_at next)
after_launch o L l n s area next rounded fits written =
    after_same o (OneOffer n s (kept_record l.time launched_mark 0)) (LaunchOffer (Some l) n) (record_at area) (record_at next)
    (λ h u e p. (l, p.0, refl, subst (RoundedUp l.transition) (sym p.1) rounded, p.2))
    (λ h u e p. let (l', eh, el, up, q) = p in
    let same : l ≡ l' = same_Some l l' el in
    (eh, rounded_unique l.transition u s (subst (λ (z : Launch). RoundedUp z.transition u) (sym same) up) rounded, q ∙ ap (λ (z : Launch). kept_record z.time launched_mark 0) (sym same)))
    (subst (λ (a : List SignalRecord). AfterOffers o (OneOffer n s (kept_record l.time launched_mark 0)) (record_at area) (record_at a)) (sym written) (after_one o L area n s (kept_record l.time launched_mark 0) rounded.within fits refl))

-- no launch, nothing offered
pub after_no_launch : (o : Order) (L : senses.Lawful o) (n : ℕ) (A : Records) → AfterOffers o (LaunchOffer None n) A A
after_no_launch o L n A = after_none o L (LaunchOffer None n) A (λ h s e p. none-some p.0 p.2)
