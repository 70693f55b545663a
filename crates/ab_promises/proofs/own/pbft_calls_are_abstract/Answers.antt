use Rattle.ab_promises.proofs.OwnOrders.{own_abstract}
use Rattle.ab_promises.proofs.own.pbft_calls_are_abstract.Goals as goal

pub returns : goal.returns
returns g c = λ orders obeys. own_abstract g.S.Service.machine orders obeys
