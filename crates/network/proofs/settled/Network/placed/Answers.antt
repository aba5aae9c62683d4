use Rattle.std.proofs.Common.{sym, subst}
use Rattle.paths.specs.Cycles.{LeftIsReachable}
use Rattle.network.specs.Settling.{network_block}
use Rattle.network.proofs.SettledFacts.{settled_whole}
use Rattle.network.proofs.settled.Network.placed.Goals as goal

pub returns-clause-left : goal.returns-clause-left
returns-clause-left c = subst (LeftIsReachable (network_block c.args.self.now)) (sym c.placed.ensures) (settled_whole c.args.self.now).left_is_reachable
