use Rattle.ab_node.proofs.JointLemmas.{first_start}
use Rattle.ab_node.proofs.laws.first_members_start_a_run.Goals as goal

pub returns : goal.returns
returns g c = λ proto cluster faulty signatures w are. first_start proto cluster faulty signatures w are
