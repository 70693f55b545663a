use Rattle.ab_kv.proofs.RowLaws.{del_held, del_none}
use Rattle.ab_kv.proofs.laws.del_is.Goals as goal

pub returns-clause-held : goal.returns-clause-held
returns-clause-held c s m k v is = del_held s m k is v

pub returns-clause-none : goal.returns-clause-none
returns-clause-none c s m k is = del_none s m k is
