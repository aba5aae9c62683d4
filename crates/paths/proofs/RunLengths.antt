-- How many arcs a run has and how much delay; from these the ranges of times, required times and slacks. Assumes nothing.
use Rattle.std.proofs.Common.{◌≡◌, ℕ, ◌+◌, ◌*◌, ◌<◌, ◌≤◌, Bool, true, false, cond, ◌⊎◌, List, [], ◌∷◌, length, ℤ, pos, Some, Option, sym, ap, subst, inl, inr, arith}
use Rattle.std.proofs.lemmas.Int.{ints}
use Rattle.units.specs.Senses.{Order, late_order, early_order}
use Rattle.units.specs.Steps.{last_step}
use Rattle.models.specs.Meaning.{Meaning, max_delay}
use Rattle.models.specs.Meaning as models
use Rattle.paths.specs.declared.blocks.Launch.{Launch}
use Rattle.paths.specs.Blocks.{Block, net_of, tail_of, head_of, kind_of, time_of, limit_of, max_nets, max_path, latest_launch, largest_limit, Joined, TimesFit, LateLimitsFit, EarlyLimitsFit}
use Rattle.paths.specs.Runs.{Run}
use Rattle.paths.specs.Orders.{place_of, TopologicalOrder}
use Rattle.paths.specs.Signals.{Signal, Launches, along, run_delay, Arrives}
use Rattle.paths.specs.Slacks.{limit_at, Asks, SlackOfPath}
use Rattle.paths.specs.ArcByArc.{Timeable}
use Rattle.paths.specs.Ranges.{longest_delay, latest_time, RequiredFits, SlackFits, RangesHold}
use Rattle.paths.proofs.Covering.{along_time, along_fits, launch_fits}

-- the place grows by at least one over each arc
pub run_places : (b : Block) (order : List ℕ) → TopologicalOrder (length b.nets) b.arcs order → (n end : ℕ) (is : List ℕ) → Run b n is end → length is + place_of order n ≤ place_of order end
run_places b order ordered n end [] run = subst (λ (v : ℕ). 0 + place_of order n ≤ place_of order v) run (omega arith)
run_places b order ordered n end (i ∷ is) run =
    let further = run_places b order ordered (head_of b.arcs i) end is run.2 in
    let before = ordered.tails_first i run.0 in
    let here : place_of order (tail_of b.arcs i) ≡ place_of order n = ap (place_of order) run.1 in
    omega arith

-- a run of at least one arc ends at a net of the block
pub run_end : (b : Block) → Joined (length b.nets) b.arcs → (n end i : ℕ) (is : List ℕ) → Run b n (i ∷ is) end → end < length b.nets
run_end b joined n end i [] run = subst (λ (v : ℕ). v < length b.nets) run.2 (joined i run.0).1
run_end b joined n end i (j ∷ is) run = run_end b joined (head_of b.arcs i) end j is run.2

-- no net stands on a run twice
pub run_short : (b : Block) (order : List ℕ) → Joined (length b.nets) b.arcs → TopologicalOrder (length b.nets) b.arcs order → length b.nets ≤ max_nets → (n end : ℕ) (is : List ℕ) → Run b n is end → length is ≤ max_path
run_short b order joined ordered few n end [] run = omega arith
run_short b order joined ordered few n end (i ∷ is) run =
    let places = run_places b order ordered n end (i ∷ is) run in
    let placed = ordered.whole end (run_end b joined n end i is run) in
    let long = ordered.long in
    omega arith

-- each arc has at most the largest delay
pub delay_short : (b : Block) (m : Meaning) → models.Lawful m → (s : ℕ) (is : List ℕ) → run_delay b m s is ≤ max_delay * length is
delay_short b m lawful s [] = omega arith
delay_short b m lawful s (i ∷ is) =
    let kind = kind_of b.arcs i in
    let more = delay_short b m lawful (m.output_step kind s) is in
    let fits = lawful.delay.fits kind s in
    omega arith

-- a run has at most the delay of a path as long and slow as can be
pub run_delay_fits : (b : Block) (m : Meaning) (order : List ℕ) → models.Lawful m → Joined (length b.nets) b.arcs → TopologicalOrder (length b.nets) b.arcs order → length b.nets ≤ max_nets → (n end s : ℕ) (is : List ℕ) → Run b n is end → run_delay b m s is ≤ longest_delay
run_delay_fits b m order lawful joined ordered few n end s is run =
    let short = run_short b order joined ordered few n end is run in
    let delay = delay_short b m lawful s is in
    omega arith

limit_fits : (late : Bool) (l e : Option ℕ) (limit : ℕ) → limit_of l ≤ largest_limit → limit_of e ≤ largest_limit → cond late l e ≡ Some limit → limit ≤ largest_limit
limit_fits true l e limit hl he same = subst (λ (x : Option ℕ). limit_of x ≤ largest_limit) same hl
limit_fits false l e limit hl he same = subst (λ (x : Option ℕ). limit_of x ≤ largest_limit) same he

-- late a time is taken from a limit, early a limit from a time
slack_fits : (o : Order) → (o ≡ late_order) ⊎ (o ≡ early_order) → (time limit : ℕ) → time ≤ latest_time → limit ≤ largest_limit → SlackFits (o.slack (pos time) (pos limit))
slack_fits o (inl late) time limit ht hl = subst (λ (p : Order). SlackFits (p.slack (pos time) (pos limit))) (sym late) (omega (arith, ints), omega (arith, ints))
slack_fits o (inr early) time limit ht hl = subst (λ (p : Order). SlackFits (p.slack (pos time) (pos limit))) (sym early) (omega (arith, ints), omega (arith, ints))

module _ (b : Block) (m : Meaning) (o : Order) (order : List ℕ) (timeable : Timeable b m o order) (joined : Joined (length b.nets) b.arcs) (few : length b.nets ≤ max_nets) (times : TimesFit b.nets) (late-limits : LateLimitsFit b.nets) (early-limits : EarlyLimitsFit b.nets) where
  delay_fits : (n end s : ℕ) (is : List ℕ) → Run b n is end → run_delay b m s is ≤ longest_delay
  delay_fits n end s is run = run_delay_fits b m order timeable.model joined timeable.ordered few n end s is run

  launch_time_fits : (n : ℕ) (x : Signal) → Launches b o n x → x.time ≤ latest_launch
  launch_time_fits n x launched =
      let (l, e, at, rounded) = launched in
      let fits : l.time ≤ latest_launch = subst (λ (y : Option Launch). time_of y ≤ latest_launch) e (times n) in
      omega arith

  along_time_fits : (start end : ℕ) (x : Signal) (is : List ℕ) → Launches b o start x → Run b start is end → (along b m x is).time ≤ latest_time
  along_time_fits start end x is launched run =
      let first = launch_time_fits start x launched in
      let delay = delay_fits start end x.step is run in
      let grown = along_time b m x is in
      omega arith

  limit_at_fits : (n limit : ℕ) → limit_at b o n ≡ Some limit → limit ≤ largest_limit
  limit_at_fits n limit e = limit_fits o.is_late (net_of b n).late_limit (net_of b n).early_limit limit (late-limits n) (early-limits n) e

  time_range : (n : ℕ) (y : Signal) → Arrives b m o n y → y.time ≤ latest_time
  time_range n y arrives =
      let (start, x, is, launched, run, e) = arrives in
      subst (λ (z : Signal). z.time ≤ latest_time) (sym e) (along_time_fits start n x is launched run)

  step_range : (n : ℕ) (y : Signal) → Arrives b m o n y → y.step ≤ last_step
  step_range n y arrives =
      let (start, x, is, launched, run, e) = arrives in
      subst (λ (z : Signal). z.step ≤ last_step) (sym e) (along_fits b m timeable.model x is (launch_fits b o start x launched))

  required_range : (n s : ℕ) (r : ℤ) → Asks b m o n s r → RequiredFits r
  required_range n s r asks =
      let (end, limit, is, run, el, er) = asks in
      let delay = delay_fits n end s is run in
      let fits = limit_at_fits end limit el in
      (omega (arith, ints), omega (arith, ints))

  slack_range : (o ≡ late_order) ⊎ (o ≡ early_order) → (z : ℤ) → SlackOfPath b m o z → SlackFits z
  slack_range sense z path =
      let (start, x, is, end, limit, complete, ez) = path in
      let time = along_time_fits start end x is complete.launched complete.joined in
      let fits = limit_at_fits end limit complete.limited in
      subst SlackFits (sym ez) (slack_fits o sense (along b m x is).time limit time fits)

  pub ranges_hold : (o ≡ late_order) ⊎ (o ≡ early_order) → RangesHold b m o
  ranges_hold sense = record { time = time_range; step = step_range; required = required_range; slack = slack_range sense }
