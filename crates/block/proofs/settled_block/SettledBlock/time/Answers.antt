use Rattle.block.proofs.TimedBlocks.{timing_facts}
use Rattle.block.proofs.settled_block.SettledBlock.time.Goals as goal

pub invariant_of-circuit-clause-joined : goal.invariant_of-circuit-clause-joined
invariant_of-circuit-clause-joined g c = rw c.nets.ensures.value c.arcs.ensures.joined

pub invariant_of-circuit-clause-numbers : goal.invariant_of-circuit-clause-numbers
invariant_of-circuit-clause-numbers g c = rw c.nets.ensures.value c.order.ensures.numbers

pub returns-in-Some-clause-facts : goal.returns-in-Some-clause-facts
returns-in-Some-clause-facts g c = timing_facts c.args.self.now.network _ g.S.Sense.order (g.met.M.DelayModel.lawful c.args.model.now) g.met.S.Sense.lawful g.met.S.Sense.late_or_early

pub returns-in_err-time-clause-facts : goal.returns-in_err-time-clause-facts
returns-in_err-time-clause-facts g c = timing_facts c.args.self.now.network _ g.S.Sense.order (g.met.M.DelayModel.lawful c.args.model.now) g.met.S.Sense.lawful g.met.S.Sense.late_or_early

pub returns-clause-facts : goal.returns-clause-facts
returns-clause-facts g c = timing_facts c.args.self.now.network _ g.S.Sense.order (g.met.M.DelayModel.lawful c.args.model.now) g.met.S.Sense.lawful g.met.S.Sense.late_or_early
