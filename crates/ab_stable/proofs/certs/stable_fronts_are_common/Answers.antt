use Rattle.ab_stable.proofs.Fronts.{common_front}
use Rattle.ab_stable.proofs.certs.stable_fronts_are_common.Goals as goal

pub returns : goal.returns
returns c = common_front
