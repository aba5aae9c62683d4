use Rattle.network.proofs.SettledFacts.{settled_whole}
use Rattle.network.proofs.draft.Draft.settle.Goals as goal

pub returns : goal.returns
returns c = settled_whole _
