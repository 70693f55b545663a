use Rattle.ab_stable.proofs.SmallMarked.{with_marks, stable}
use Rattle.ab_stable.proofs.examples.small_checkpoints_are_there.Goals as goal

pub returns : goal.returns
returns g c = record { acts = with_marks g.S.Service.machine; stable = stable g.S.Service.machine }
