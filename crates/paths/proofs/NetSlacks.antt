-- The slack of a net from the signals and required times held there, the worst slack from the nets' slacks, and that there is one of each. Assumes nothing.
use Rattle.std.proofs.Common.{◌≡◌, ℕ, ◌≤◌, List, [], ◌++◌, ℤ, pos, ◌+ℤ◌, ◌-ℤ◌, neg_ℤ, ◌≤ℤ◌, Some, Option, sym, refl, ap, ◌∙◌, subst, arith}
use Rattle.std.proofs.lemmas.Int.{ints}
use Rattle.units.specs.Senses.{Order, AsBad}
use Rattle.units.specs.Senses as senses
use Rattle.units.specs.Steps.{last_step}
use Rattle.models.specs.Meaning.{Meaning}
use Rattle.paths.specs.Blocks.{Block}
use Rattle.paths.specs.Signals.{Signal, signal, along, run_delay, Covers}
use Rattle.paths.specs.Slacks.{Asks, RequiredTime, path_slack, SlackOfPath, SlackThrough, NetSlack, WorstSlack}
use Rattle.paths.specs.ArcByArc.{SignalTable, RequiredTable, PrunedByNets, RequiredByNets, Timeable, SlackHeld, SlackMeetsAtNets, WorstOfNets}
use Rattle.paths.proofs.Covering.{run_append, along_append, along_time, along_fits, launch_fits, as_bad_refl, Prunes, covers_prunes, prunes_along}
use Rattle.paths.proofs.Firsts.{first_has, first_is, first_unique, ≤ℤ-transitive, least_moved, least_unique}
use Rattle.paths.proofs.Pruning.{held_fits, held_arrives, arrives_covered}
use Rattle.paths.proofs.RequiredTimes.{required_as_hard, required_asked}

module _ (o : Order) (lawful : senses.Lawful o) where
  -- a delay added to the time may be taken from the required time instead
  slack_of_delay : (t r d : ℤ) → o.slack (t +ℤ d) r ≡ o.slack t (r -ℤ d)
  slack_of_delay t r d = ap (o.slack (t +ℤ d)) (back r d) ∙ lawful.slack_moves t (r -ℤ d) d
    where
      back : (r d : ℤ) → r ≡ (r -ℤ d) +ℤ d
      back r d = omega (arith, ints)

  -- against a required time that is harder to meet there is no more slack
  slack_of_harder : (t q r : ℤ) → AsBad o q r → o.slack t r ≤ℤ o.slack t q
  slack_of_harder t q r h =
      let d = q -ℤ r in
      let same : o.slack (t +ℤ d) q ≡ o.slack t r = ap (o.slack (t +ℤ d)) (up q r) ∙ lawful.slack_moves t r d in
      let apart : AsBad o d (pos 0) = subst (AsBad o d) (nothing r) (lawful.sums q r (neg_ℤ r) (neg_ℤ r) h (as_bad_refl o lawful (neg_ℤ r))) in
      let later : AsBad o (t +ℤ d) t = subst (AsBad o (t +ℤ d)) (none_added t) (lawful.sums t t d (pos 0) (as_bad_refl o lawful t) apart) in
      subst (λ (z : ℤ). z ≤ℤ o.slack t q) same (lawful.slack_falls (t +ℤ d) t q later)
    where
      up : (q r : ℤ) → q ≡ r +ℤ (q -ℤ r)
      up q r = omega (arith, ints)

      nothing : (r : ℤ) → r +ℤ neg_ℤ r ≡ pos 0
      nothing r = omega (arith, ints)

      none_added : (t : ℤ) → t +ℤ pos 0 ≡ t
      none_added t = omega (arith, ints)

module _ (b : Block) (m : Meaning) (o : Order) (order : List ℕ) (held : SignalTable) (required : RequiredTable) (timeable : Timeable b m o order) (Over : Signal → Signal → Type 0) (prunes : Prunes b m o Over) (pruned : PrunedByNets b m o Over held) (by_nets : RequiredByNets b m o required) where
  -- a path's slack is that of its time at a net on it, against what the rest of the path asks for there
  slack_at_net : (x : Signal) (is js : List ℕ) (limit : ℕ) → path_slack b m o x (is ++ js) limit ≡ o.slack (pos (along b m x is).time) (pos limit -ℤ pos (run_delay b m (along b m x is).step js))
  slack_at_net x is js limit =
      ap (λ (y : Signal). o.slack (pos y.time) (pos limit)) (along_append b m x is js)
      ∙ ap (λ (t : ℕ). o.slack (pos t) (pos limit)) (along_time b m (along b m x is) js)
      ∙ slack_of_delay o timeable.sense (pos (along b m x is).time) (pos limit) (pos (run_delay b m (along b m x is).step js))

  -- a signal held and the required time of its step belong to a path through the net
  pub held_through : (n : ℕ) (z : ℤ) → SlackHeld o held required n z → SlackThrough b m o n z
  held_through n z h =
      let (s, t, r, et, er, ez) = h in
      let (start, x, is, launched, run, ey) = held_arrives b m o order held timeable Over prunes pruned n s t et in
      let (end, limit, js, run₂, el, ea) = required_asked b m o order required timeable by_nets n s r (held_fits b m o order held timeable Over prunes pruned n s t et) er in (
        start,
        x,
        is,
        js,
        end,
        limit,
        run,
        run₂,
        record { launched = launched; joined = run_append b start n end is js run run₂; limited = el },
        ez ∙ ap (o.slack (pos t)) ea ∙ ap (λ (y : Signal). o.slack (pos y.time) (pos limit -ℤ pos (run_delay b m y.step js))) ey ∙ sym (slack_at_net x is js limit),
      )

  -- a signal over another has, against a required time that is hard enough, no more slack than the other at the run's end
  slack_no_more : (x y : Signal) (js : List ℕ) (limit : ℕ) (r : ℤ) → x.step ≤ last_step → y.step ≤ last_step → Over x y → AsBad o (pos limit -ℤ pos (run_delay b m x.step js)) r → o.slack (pos x.time) r ≤ℤ path_slack b m o y js limit
  slack_no_more x y js limit r hx hy over hard =
      let asked = pos limit -ℤ pos (run_delay b m x.step js) in
      let at-end : Over (along b m x js) (along b m y js) = prunes_along b m o Over timeable.model prunes x y js hx hy over in
      let no_more : path_slack b m o x js limit ≤ℤ path_slack b m o y js limit = timeable.sense.slack_falls (pos (along b m x js).time) (pos (along b m y js).time) (pos limit) (prunes.in_time (along b m x js) (along b m y js) at-end) in
      ≤ℤ-transitive (o.slack (pos x.time) r) (o.slack (pos x.time) asked) (path_slack b m o y js limit) (slack_of_harder o timeable.sense (pos x.time) asked r hard)
      (subst (λ (z : ℤ). z ≤ℤ path_slack b m o y js limit) (slack_at_net x [] js limit) no_more)

  -- for each path through the net, a signal held there has no more slack
  pub through_held : (n : ℕ) (z : ℤ) → SlackThrough b m o n z → (a : ℤ) × SlackHeld o held required n a × (a ≤ℤ z)
  through_held n z h =
      let (start, x, is, js, end, limit, run, run₂, complete, ez) = h in
      let (s, t, et, over) = arrives_covered b m o order held timeable Over prunes pruned n (along b m x is) (start, x, is, complete.launched, run, refl) in
      let fits = held_fits b m o order held timeable Over prunes pruned n s t et in
      let (r, er, hard) = required_as_hard b m o order required timeable by_nets n s (pos limit -ℤ pos (run_delay b m s js)) fits (end, limit, js, run₂, complete.limited, refl) in
      let no_more = slack_no_more (signal t s) (along b m x is) js limit r fits (along_fits b m timeable.model x is (launch_fits b o start x complete.launched)) over hard in (
        o.slack (pos t) r,
        (s, t, r, et, er, refl),
        subst (λ (w : ℤ). o.slack (pos t) r ≤ℤ w) (ap (λ (v : Signal). o.slack (pos v.time) (pos limit)) (sym (along_append b m x is js)) ∙ sym ez) no_more,
      )

  -- the least of what is held is the net's slack, whatever relation that serves for pruning the rows are pruned by
  pub slack_meets_pruned : SlackMeetsAtNets b m o held required
  slack_meets_pruned n z least = least_moved (SlackHeld o held required n) (SlackThrough b m o n) (held_through n) (through_held n) z least

pub slack_meets_at_nets : (b : Block) (m : Meaning) (o : Order) (order : List ℕ) (held : SignalTable) (required : RequiredTable) → Timeable b m o order → PrunedByNets b m o (Covers o) held → RequiredByNets b m o required → SlackMeetsAtNets b m o held required
slack_meets_at_nets b m o order held required timeable pruned by_nets =
    slack_meets_pruned b m o order held required timeable (Covers o) (covers_prunes b m o timeable.model timeable.sense) pruned by_nets

-- a path through a net is a path
pub through_path : (b : Block) (m : Meaning) (o : Order) (n : ℕ) (z : ℤ) → SlackThrough b m o n z → SlackOfPath b m o z
through_path b m o n z h =
    let (start, x, is, js, end, limit, run, run₂, complete, ez) = h in
    (start, x, is ++ js, end, limit, complete, ez)

-- a path goes through the net that it starts at
pub path_through : (b : Block) (m : Meaning) (o : Order) (z : ℤ) → SlackOfPath b m o z → (n : ℕ) × SlackThrough b m o n z
path_through b m o z h =
    let (start, x, is, end, limit, complete, ez) = h in
    (start, (start, x, [], is, end, limit, refl, complete.joined, complete, ez))

module _ (b : Block) (m : Meaning) (o : Order) (slacks : ℕ → Option ℤ) (net_slacks : (n : ℕ) → NetSlack b m o n (slacks n)) where
  abbrev OfNet : ℤ → Type 0
  OfNet a = (n : ℕ) × (slacks n ≡ Some a)

  of_path : (a : ℤ) → OfNet a → SlackOfPath b m o a
  of_path a (n, e) = through_path b m o n a (first_is ◌≤ℤ◌ (SlackThrough b m o n) (slacks n) (net_slacks n) a e)

  of_net : (z : ℤ) → SlackOfPath b m o z → (a : ℤ) × OfNet a × (a ≤ℤ z)
  of_net z h =
      let (n, through) = path_through b m o z h in
      let (a, e, le) = first_has ◌≤ℤ◌ (SlackThrough b m o n) (slacks n) (net_slacks n) z through in
      (a, (n, e), le)

  pub worst_of_nets : WorstOfNets b m o slacks
  worst_of_nets z least = least_moved OfNet (SlackOfPath b m o) of_path of_net z least

pub required_time_unique : (b : Block) (m : Meaning) (o : Order) → senses.Lawful o → (n s : ℕ) (x y : Option ℤ) → RequiredTime b m o n s x → RequiredTime b m o n s y → x ≡ y
required_time_unique b m o lawful n s x y f g =
    first_unique (λ a z. AsBad o z a) (Asks b m o n s) (λ a c h i. lawful.antisymmetric a c i h) x y f g

pub net_slack_unique : (b : Block) (m : Meaning) (o : Order) (n : ℕ) (x y : Option ℤ) → NetSlack b m o n x → NetSlack b m o n y → x ≡ y
net_slack_unique b m o n x y f g = least_unique (SlackThrough b m o n) x y f g

pub worst_slack_unique : (b : Block) (m : Meaning) (o : Order) (x y : Option ℤ) → WorstSlack b m o x → WorstSlack b m o y → x ≡ y
worst_slack_unique b m o x y f g = least_unique (SlackOfPath b m o) x y f g
