use Rattle.ab_node.proofs.JointLemmas.{are_run}
use Rattle.ab_node.proofs.laws.members_make_a_run.Goals as goal

pub returns : goal.returns
returns g c = λ k proto counted w xs. are_run k proto counted w xs
