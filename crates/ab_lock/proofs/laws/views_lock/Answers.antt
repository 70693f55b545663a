use Rattle.ab_lock.proofs.PromiseLaws.{views_lock}
use Rattle.ab_lock.proofs.laws.views_lock.Goals as goal

pub returns : goal.returns
returns g c = λ digest may_stand goes k f faulty acts met. views_lock digest may_stand goes k f faulty acts met
