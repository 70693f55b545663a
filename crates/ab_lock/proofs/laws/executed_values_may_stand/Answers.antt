use Rattle.ab_lock.proofs.PromiseLaws.{executed_may_stand}
use Rattle.ab_lock.proofs.laws.executed_values_may_stand.Goals as goal

pub returns : goal.returns
returns g c = λ digest may_stand goes k f faulty acts met. executed_may_stand digest may_stand goes k f faulty acts met
