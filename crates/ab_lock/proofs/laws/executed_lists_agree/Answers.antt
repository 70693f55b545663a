use Rattle.ab_lock.proofs.PromiseLaws.{executed_agree}
use Rattle.ab_lock.proofs.laws.executed_lists_agree.Goals as goal

pub returns : goal.returns
returns g c = λ digest may_stand goes k f faulty acts met. executed_agree digest may_stand goes k f faulty acts met
