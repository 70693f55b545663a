use Rattle.ab_kv.proofs.RowLaws.{put_held, put_new, put_full}
use Rattle.ab_kv.proofs.laws.put_is.Goals as goal

pub returns-clause-held : goal.returns-clause-held
returns-clause-held c s m k v w is at = put_held s m k v is w at

pub returns-clause-new : goal.returns-clause-new
returns-clause-new c s m k v is = put_new s m k v is

pub returns-clause-full : goal.returns-clause-full
returns-clause-full c s m k v is = put_full s m k v is
