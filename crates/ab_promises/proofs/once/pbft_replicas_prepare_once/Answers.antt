use Rattle.ab_promises.proofs.PreparedOnce.{prepares_once}
use Rattle.ab_promises.proofs.once.pbft_replicas_prepare_once.Goals as goal

pub returns : goal.returns
returns g c = λ orders obeys. prepares_once g.S.Service.machine orders obeys
