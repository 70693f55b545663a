use Rattle.ab_stable.proofs.LeftOut.{same_state, premises_still, promises_still}
use Rattle.ab_stable.proofs.acts.checkpoints_can_be_left_out.Goals as goal

pub returns : goal.returns
returns g c = record { states = same_state; premises = premises_still; promises = λ is_mark. promises_still is_mark g.S.Service.machine }
