use Rattle.ab_kv.proofs.RowLaws.{cas_same, cas_other, cas_none}
use Rattle.ab_kv.proofs.laws.cas_is.Goals as goal

pub returns-clause-same : goal.returns-clause-same
returns-clause-same c s m k old new is = cas_same s m k old new is

pub returns-clause-other : goal.returns-clause-other
returns-clause-other c s m k old new v is = cas_other s m k old new is v

pub returns-clause-none : goal.returns-clause-none
returns-clause-none c s m k old new is = cas_none s m k old new is
