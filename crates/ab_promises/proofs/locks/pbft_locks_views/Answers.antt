use Rattle.ab_promises.proofs.OwnOrders.{own_lock}
use Rattle.ab_promises.proofs.locks.pbft_locks_views.Goals as goal

pub returns : goal.returns
returns g c = λ orders obeys. own_lock g.S.Service.machine orders obeys
