use Rattle.ab_promises.proofs.OwnOrders.{own_sign_once}
use Rattle.ab_promises.proofs.locks.pbft_signs_once.Goals as goal

pub returns : goal.returns
returns g c = λ orders obeys. own_sign_once g.S.Service.machine orders obeys
