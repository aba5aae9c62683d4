-- What a table pruned net by net holds is what is kept over all runs. Assumes nothing.
use Rattle.std.proofs.Common.{◌≡◌, ℕ, zero, suc, ◌<◌, ◌≤◌, ◌↔◌, List, [], ◌∷◌, ◌++◌, Some, sym, refl, ap, ◌∙◌, subst, inl, inr, not-suc-le-zero, arith}
use Rattle.units.specs.Senses.{Order}
use Rattle.units.specs.Steps.{last_step}
use Rattle.models.specs.Meaning.{Meaning}
use Rattle.paths.specs.Blocks.{Block, tail_of, head_of}
use Rattle.paths.specs.Runs.{Run}
use Rattle.paths.specs.Orders.{place_of}
use Rattle.paths.specs.Signals.{Signal, signal, carried, along, Arrives, Covers, Foremost}
use Rattle.paths.specs.ArcByArc.{SignalTable, ArrivesAt, PrunedByNets, Timeable, PruningLosesNothing}
use Rattle.paths.proofs.Options.{some_injective}
use Rattle.paths.proofs.Covering.{run_append, along_append, launch_fits, Prunes, covers_prunes}

module _ (b : Block) (m : Meaning) (o : Order) (order : List ℕ) (held : SignalTable) (T : Timeable b m o order) (Over : Signal → Signal → Type 0) (R : Prunes b m o Over) (P : PrunedByNets b m o Over held) where
  -- the net holds a signal over y
  abbrev pub HeldOver : ℕ → Signal → Type 0
  HeldOver n y = (s : ℕ) × (t : ℕ) × (held n s ≡ Some t) × Over (signal t s) y

  arrives_fits : (n : ℕ) (y : Signal) → ArrivesAt b m o held n y → y.step ≤ last_step
  arrives_fits n y (inl launched) = launch_fits b o n y launched
  arrives_fits n y (inr c) = subst (λ (z : Signal). z.step ≤ last_step) (sym c.6) (T.model.output_step.fits _ _)

  pub held_fits : (n s t : ℕ) → held n s ≡ Some t → s ≤ last_step
  held_fits n s t e = arrives_fits n (signal t s) ((P n).offered s t e)

  -- from net to net along a run, the signal held stays over the one carried
  over_along : (is : List ℕ) (n end : ℕ) (y : Signal) → y.step ≤ last_step → HeldOver n y → Run b n is end → HeldOver end (along b m y is)
  over_along [] n end y h over run = subst (λ (v : ℕ). HeldOver v y) run over
  over_along (i ∷ is) n end y h over run =
      let (s, t, e, c) = over in
      let e' : held (tail_of b.arcs i) s ≡ Some t = subst (λ (v : ℕ). held v s ≡ Some t) (sym run.1) e in
      let (s₂, t₂, e₂, c₂) = (P (head_of b.arcs i)).covered (carried b m i (signal t s)) (inr (i, s, t, run.0, refl, e', refl)) in
      let c₃ = R.transitive (signal t₂ s₂) _ _ c₂ (R.carried_over i (signal t s) y (held_fits n s t e) h c) in
      over_along is (head_of b.arcs i) end (carried b m i y) (T.model.output_step.fits _ _) (s₂, t₂, e₂, c₃) run.2

  -- the net holds a signal over each that arrives
  pub arrives_covered : (n : ℕ) (y : Signal) → Arrives b m o n y → HeldOver n y
  arrives_covered n y arrives =
      let (start, x, is, launched, run, e) = arrives in
      subst (λ (z : Signal). HeldOver n z) (sym e) (over_along is start n x (launch_fits b o start x launched) ((P start).covered x (inl launched)) run)

  -- back from net to net, each at an earlier place
  arrives_within : (fuel n s t : ℕ) → place_of order n < fuel → held n s ≡ Some t → Arrives b m o n (signal t s)
  arrives_within zero n s t h e = absurd (not-suc-le-zero h)
  arrives_within (suc fuel) n s t h e = go ((P n).offered s t e) (λ k u v. arrives_within fuel k u v)
    where
      go : ArrivesAt b m o held n (signal t s) → ((k u v : ℕ) → place_of order k < fuel → held k u ≡ Some v → Arrives b m o k (signal v u)) → Arrives b m o n (signal t s)
      go (inl launched) before = (n, signal t s, [], launched, refl, refl)
      go (inr c) before =
          let (i, u, v, is-arc, into, ev, ey) = c in
          let first : place_of order (tail_of b.arcs i) < place_of order n = subst (λ (k : ℕ). place_of order (tail_of b.arcs i) < place_of order k) into (T.ordered.tails_first i is-arc) in
          let (start, x, is, launched, run, e₂) = before (tail_of b.arcs i) u v (omega arith) ev in (
            start,
            x,
            is ++ i ∷ [],
            launched,
            run_append b start (tail_of b.arcs i) n is (i ∷ []) run (is-arc, refl, into),
            ey ∙ ap (carried b m i) e₂ ∙ sym (along_append b m x is (i ∷ [])),
          )

  -- each signal held arrives at its net
  pub held_arrives : (n s t : ℕ) → held n s ≡ Some t → Arrives b m o n (signal t s)
  held_arrives n s t e = arrives_within (suc (place_of order n)) n s t (omega arith) e

  held_is_foremost : (n s t : ℕ) → held n s ≡ Some t → Foremost b m o Over n (signal t s)
  held_is_foremost n s t e = (
    held_arrives n s t e,
    λ z arrives c.
        let (s₂, t₂, e₂, c₂) = arrives_covered n z arrives in
        let es : s₂ ≡ s = (P n).apart s₂ t₂ s t e₂ e (R.transitive (signal t₂ s₂) z (signal t s) c₂ c) in
        let et : t₂ ≡ t = some_injective t₂ t (sym e₂ ∙ ap (held n) es ∙ e) in
        R.antisymmetric z (signal t s) c (subst (λ (w : Signal). Over w z) (λ i. signal (et i) (es i)) c₂),
  )

  foremost_is_held : (n s t : ℕ) → Foremost b m o Over n (signal t s) → held n s ≡ Some t
  foremost_is_held n s t foremost =
      let (s₂, t₂, e₂, c₂) = arrives_covered n (signal t s) foremost.0 in
      let q : signal t₂ s₂ ≡ signal t s = foremost.1 (signal t₂ s₂) (held_arrives n s₂ t₂ e₂) c₂ in
      subst (λ (w : Signal). held n w.step ≡ Some w.time) q e₂

  pub foremost_held : (n s t : ℕ) → (held n s ≡ Some t) ↔ Foremost b m o Over n (signal t s)
  foremost_held n s t = (held_is_foremost n s t, foremost_is_held n s t)

pub pruning_loses_nothing : (b : Block) (m : Meaning) (o : Order) (order : List ℕ) (held : SignalTable) → Timeable b m o order → PrunedByNets b m o (Covers o) held → PruningLosesNothing b m o held
pruning_loses_nothing b m o order held T P n s t = foremost_held b m o order held T (Covers o) (covers_prunes b m o T.model T.sense) P n s t
