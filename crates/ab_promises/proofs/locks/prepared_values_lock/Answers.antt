use Rattle.ab_promises.proofs.SignsOnce.{prepared_lock}
use Rattle.ab_promises.proofs.locks.prepared_values_lock.Goals as goal

pub returns : goal.returns
returns g c = λ digest may_stand goes k f faulty acts met v w n q x y held le good was. prepared_lock digest may_stand goes k f faulty acts met v w n q x y held le good was
