use Rattle.ab_loop.proofs.LifeLemmas.{restarts_hand, restarts_tell}
use Rattle.ab_loop.proofs.laws.restarted_nodes_are_one.Goals as goal

pub returns-clause-handed : goal.returns-clause-handed
returns-clause-handed g c = λ s core runs idle life. restarts_hand g.K.PartyCore.rules s core runs idle life

pub returns-clause-replied : goal.returns-clause-replied
returns-clause-replied g c = λ s core runs idle life. restarts_tell g.K.PartyCore.rules s core runs idle life
