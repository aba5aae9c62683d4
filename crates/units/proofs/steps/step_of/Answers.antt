use Rattle.std.proofs.Common.{◌<◌, ◌≤◌, sym, subst, rules}
use Rattle.std.proofs.lemmas.Iterator.{first_from_Range}
use borrow.Author.Tests.{tests}
use Rattle.units.specs.Steps.{picoseconds, RoundedUp}
use Rattle.units.proofs.Rounding.{rounded_up}
use Rattle.units.proofs.steps.step_of.Goals as goal

pub returns : goal.returns
returns c =
    let transition = c.args.transition in
    let first = first_from_Range _ _ _ _ (λ s. transition ≤ picoseconds s) (λ s. picoseconds s < transition) c.find.ensures.ran (λ x q k. search (rules, tests)) (λ x q k. search (rules, tests)) in
    subst (RoundedUp transition) (sym c.unwrap_or.ensures) (rounded_up transition c.find.result first)
