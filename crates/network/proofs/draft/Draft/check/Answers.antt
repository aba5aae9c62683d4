use Rattle.std.proofs.Common.{refl, subst}
use Rattle.paths.specs.Cycles.{CycleAt}
use Rattle.paths.proofs.TakingOff.{cycle_at}
use Rattle.network.specs.Calls.{draft_block}
use Rattle.network.proofs.draft.Draft.check.Goals as goal

pub returns-in-Some : goal.returns-in-Some
returns-in-Some c =
    let d = c.args.self.now in
    let sorted = c.topological_order-cycle.ensures in
    (c.in-Some.net, refl, subst (CycleAt (draft_block d)) c.in-Some.is (cycle_at (draft_block d) _ d.netlist.joined sorted.off _ sorted.lowest))

pub returns-in-None : goal.returns-in-None
returns-in-None c =
    let d = c.args.self.now in
    let sorted = c.topological_order-cycle.ensures in
    subst (CycleAt (draft_block d)) c.in-None.is (cycle_at (draft_block d) _ d.netlist.joined sorted.off _ sorted.lowest)
