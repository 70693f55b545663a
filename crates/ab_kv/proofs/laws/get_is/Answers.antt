use Rattle.ab_kv.proofs.RowLaws.{get_held, get_none}
use Rattle.ab_kv.proofs.laws.get_is.Goals as goal

pub returns-clause-held : goal.returns-clause-held
returns-clause-held c s m k v is = get_held s m k is v

pub returns-clause-none : goal.returns-clause-none
returns-clause-none c s m k is = get_none s m k is
