use Rattle.ab_promises.proofs.ActsAlone.{acts_by_itself}
use Rattle.ab_promises.proofs.once.correct_replicas_act_by_themselves.Goals as goal

pub returns : goal.returns
returns g c = λ k proto serves events r place all formed lt good i. acts_by_itself k proto serves place all r lt good events formed i
