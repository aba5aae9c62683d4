-- Required times worked out arc by arc, from the limits back, are those over all runs. Assumes nothing.
use Rattle.std.proofs.Common.{◌≡◌, ℕ, zero, suc, ◌+◌, ◌-◌, ◌<◌, ◌≤◌, List, [], ◌∷◌, length, ℤ, pos, ◌+ℤ◌, ◌-ℤ◌, neg_ℤ, Some, None, Option, sym, refl, ap, ◌∙◌, subst, inl, inr, arith}
use Rattle.std.proofs.lemmas.Int.{ints}
use Rattle.units.specs.Senses.{Order, AsBad}
use Rattle.units.specs.Steps.{last_step}
use Rattle.models.specs.Meaning.{Meaning}
use Rattle.paths.specs.Blocks.{Block, tail_of, head_of, kind_of}
use Rattle.paths.specs.Runs.{Run}
use Rattle.paths.specs.Orders.{place_of}
use Rattle.paths.specs.Signals.{run_delay}
use Rattle.paths.specs.Slacks.{limit_at, Asks, RequiredTime}
use Rattle.paths.specs.ArcByArc.{Timeable, RequiredTable, RequiredByArcs, RequiredByNets, RequiredTimesRecurse}
use Rattle.paths.proofs.Covering.{as_bad_refl}
use Rattle.paths.proofs.Firsts.{first_has, first_is}
use Rattle.paths.proofs.Options.{none_is_not_some, some_injective}
use Rattle.paths.proofs.Places.{place_within}

no_delay : (limit : ℤ) → limit ≡ limit -ℤ pos 0
no_delay limit = omega (arith, ints)

more_delay : (limit : ℤ) (d e : ℕ) → (limit -ℤ pos e) -ℤ pos d ≡ limit -ℤ pos (d + e)
more_delay limit d e = omega (arith, ints)

-- an arc's delay is taken from what is asked for behind it
asked_before : (r q limit : ℤ) (d e : ℕ) → r ≡ q -ℤ pos d → q ≡ limit -ℤ pos e → r ≡ limit -ℤ pos (d + e)
asked_before r q limit d e h i = omega (arith, ints)

module _ (b : Block) (m : Meaning) (o : Order) (order : List ℕ) (required : RequiredTable) (timeable : Timeable b m o order) (by_nets : RequiredByNets b m o required) where
  abbrev AsHard : ℤ → ℤ → Type 0
  AsHard a z = AsBad o z a

  -- the table's required time is at least as hard to meet as what a run asks for
  as_hard_as_run : (is : List ℕ) (n s end limit : ℕ) → s ≤ last_step → Run b n is end → limit_at b o end ≡ Some limit → (r : ℤ) × (required n s ≡ Some r) × AsBad o (pos limit -ℤ pos (run_delay b m s is)) r
  as_hard_as_run [] n s end limit fits run e =
      let (r, er, h) = first_has AsHard (RequiredByArcs b m o required n s) (required n s) (by_nets n s fits) (pos limit) (inl (limit, subst (λ (v : ℕ). limit_at b o v ≡ Some limit) (sym run) e, refl)) in
      (r, er, subst (λ (z : ℤ). AsBad o z r) (no_delay (pos limit)) h)
  as_hard_as_run (i ∷ is) n s end limit fits run e =
      let kind = kind_of b.arcs i in
      let out = m.output_step kind s in
      let d = neg_ℤ (pos (m.delay kind s)) in
      let asked = pos limit -ℤ pos (run_delay b m out is) in
      let (q, eq, g) = as_hard_as_run is (head_of b.arcs i) out end limit (timeable.model.output_step.fits kind s) run.2 e in
      let (r, er, h) = first_has AsHard (RequiredByArcs b m o required n s) (required n s) (by_nets n s fits) (q -ℤ pos (m.delay kind s)) (inr (i, q, run.0, run.1, eq, refl)) in
      let moved : AsBad o (asked +ℤ d) (q +ℤ d) = timeable.sense.sums asked q d d g (as_bad_refl o timeable.sense d) in
      (r, er, subst (λ (z : ℤ). AsBad o z r) (more_delay (pos limit) (m.delay kind s) (run_delay b m out is)) (timeable.sense.transitive (asked +ℤ d) (q +ℤ d) r moved h))

  -- the places after the net's in the order bound the arcs to a limit
  asked_within : (fuel n s : ℕ) (r : ℤ) → s ≤ last_step → suc (length order) - place_of order n < fuel → required n s ≡ Some r → Asks b m o n s r
  asked_within zero n s r fits h e = absurd (omega arith)
  asked_within (suc fuel) n s r fits h e = elim (first_is AsHard (RequiredByArcs b m o required n s) (required n s) (by_nets n s fits) r e) [
    | inl at-limit ↦ let (limit, el, er) = at-limit in (n, limit, [], refl, el, er ∙ no_delay (pos limit))
    | inr over_arc ↦
        let (i, q, is-arc, from, eq, er) = over_arc in
        let kind = kind_of b.arcs i in
        let out = m.output_step kind s in
        let before = timeable.ordered.tails_first i is-arc in
        let here : place_of order (tail_of b.arcs i) ≡ place_of order n = ap (place_of order) from in
        let within = place_within order (head_of b.arcs i) in
        let (end, limit, is, run, el, ea) = asked_within fuel (head_of b.arcs i) out q (timeable.model.output_step.fits kind s) (omega arith) eq in (
          end,
          limit,
          i ∷ is,
          (is-arc, from, run),
          el,
          asked_before r q (pos limit) (m.delay kind s) (run_delay b m out is) er ea,
        )
  ]

  -- where a run asks for a time, the table holds one at least as hard to meet
  pub required_as_hard : (n s : ℕ) (z : ℤ) → s ≤ last_step → Asks b m o n s z → (r : ℤ) × (required n s ≡ Some r) × AsBad o z r
  required_as_hard n s z fits asks =
      let (end, limit, is, run, el, ea) = asks in
      let (r, er, h) = as_hard_as_run is n s end limit fits run el in
      (r, er, subst (λ (w : ℤ). AsBad o w r) (sym ea) h)

  -- what the table holds is asked for by a run
  pub required_asked : (n s : ℕ) (r : ℤ) → s ≤ last_step → required n s ≡ Some r → Asks b m o n s r
  required_asked n s r fits e = asked_within (suc (suc (length order) - place_of order n)) n s r fits (omega arith) e

  required_time : (n s : ℕ) (x : Option ℤ) → s ≤ last_step → required n s ≡ x → RequiredTime b m o n s x
  required_time n s None fits e = λ z asks. (let (r, er, h) = required_as_hard n s z fits asks in none_is_not_some r (sym e ∙ er))
  required_time n s (Some q) fits e =
      (required_asked n s q fits e, λ z asks. (let (r, er, h) = required_as_hard n s z fits asks in subst (AsBad o z) (some_injective r q (sym er ∙ e)) h))

  pub required_times_recurse : RequiredTimesRecurse b m o required
  required_times_recurse n s fits = required_time n s (required n s) fits refl
