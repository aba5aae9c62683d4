use Rattle.std.proofs.Common.{◌+◌, ◌-◌, ◌<◌, ◌≤◌, length, MatchOption, rules}
use borrow.Author.Tests.{tests}
use Rattle.std.proofs.lemmas.Iterator.{YieldsList-from_slice, IsFirst-from_position}
use Rattle.std.proofs.lemmas.Option.{MatchOption-at_none, MatchOption-at_some}
use Rattle.models.specs.Kinds.{point_step, Reaches}
use Rattle.models.proofs.ReachingPoints.{inner, reaches_from_inner}
use Rattle.models.proofs.interpolation.reaching.Goals as goal
use Rattle.models.proofs.interpolation.reaching.Goals.{After-position}

found : (c : After-position) → MatchOption c.position.result (Reaches c.args.points.now c.args.step (length c.args.points.now - 1)) (λ i. Reaches c.args.points.now c.args.step (i + 1))
found c =
    let ps = c.args.points.now in
    let s = c.args.step in
    reaches_from_inner ps s c.requires.formed c.requires.step c.position.result (IsFirst-from_position _ _ c.position.result (λ p. s ≤ point_step p) (λ p. point_step p < s) c.position.ensures.ran (YieldsList-from_slice (inner ps) (search rules)) (λ x q k. search (rules, tests)) (λ x q k. search (rules, tests)))

pub returns-in-Some : goal.returns-in-Some
returns-in-Some c = MatchOption-at_some _ _ c.in-Some.i c.in-Some.is (found (goal.at.returns-in-Some c).After-position)

pub returns-in-None : goal.returns-in-None
returns-in-None c = MatchOption-at_none _ _ c.in-None.is (found (goal.at.returns-in-None c).After-position)
