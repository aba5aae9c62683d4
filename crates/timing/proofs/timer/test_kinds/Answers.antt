use Rattle.std.proofs.Common.{◌≡◌, ◌<◌, ◌≤◌, Some, None, MatchOption, rules}
use borrow.Author.Tests.{tests}
use Rattle.std.proofs.lemmas.Iterator.{YieldsList-from_slice, IsFirst-from_position}
use Rattle.std.proofs.lemmas.Option.{MatchOption-at_none, MatchOption-at_some}
use Rattle.units.specs.Refusals.{first}
use Rattle.timing.specs.Faults.{timing_refusal}
use Rattle.timing.specs.Rows.{kind_rows, KindsHeld}
use Rattle.timing.proofs.KindRows.{kinds_tested}
use Rattle.timing.proofs.timer.test_kinds.Given.{Over}
use Rattle.timing.proofs.timer.test_kinds.Goals as goal
use Rattle.timing.proofs.timer.test_kinds.Goals.{After-position}

tested : (g : Over) (c : After-position g) → MatchOption c.position.result ((first (kind_rows c.count-count.result c.args.circuit.now.arcs.now) ≡ None) × KindsHeld c.count-count.result c.args.circuit.now.arcs.now) (λ i. first (kind_rows c.count-count.result c.args.circuit.now.arcs.now) ≡ Some (timing_refusal 23 i))
tested g c =
    let arcs = c.args.circuit.now.arcs.now in
    let count = c.count-count.result in
    kinds_tested count arcs c.position.result (IsFirst-from_position _ _ c.position.result (λ a. count ≤ a.kind) (λ a. a.kind < count) c.position.ensures.ran (YieldsList-from_slice arcs (search rules)) (λ x q k. search (rules, tests)) (λ x q k. search (rules, tests)))

pub returns-in-Some : goal.returns-in-Some
returns-in-Some g c = (rw c.count-count.ensures at (MatchOption-at_some _ _ c.in-Some.i c.in-Some.is (tested g (goal.at.returns-in-Some g c).After-position)), tt)

pub returns-in-None : goal.returns-in-None
returns-in-None g c = rw c.count-count.ensures at (MatchOption-at_none _ _ c.in-None.is (tested g (goal.at.returns-in-None g c).After-position))
