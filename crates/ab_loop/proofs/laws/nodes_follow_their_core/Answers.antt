use Rattle.ab_loop.proofs.FoldLemmas.{follows_core, tells_core}
use Rattle.ab_loop.proofs.laws.nodes_follow_their_core.Goals as goal

pub returns-clause-core : goal.returns-clause-core
returns-clause-core g c = λ s reading core past commands turns. follows_core g.K.PartyCore.rules s reading core past commands turns

pub returns-clause-replies : goal.returns-clause-replies
returns-clause-replies g c = λ s reading core past commands turns commit has. tells_core g.K.PartyCore.rules s reading core past commands turns commit has
