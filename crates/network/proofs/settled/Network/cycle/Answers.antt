use Rattle.network.proofs.SettledFacts.{network_cycle}
use Rattle.network.proofs.settled.Network.cycle.Goals as goal

pub returns-clause-at : goal.returns-clause-at
returns-clause-at c = network_cycle c.args.self.now
