use Rattle.ab_kv.proofs.RowLaws.{first_is_empty, first_has_none, stays_few}
use Rattle.ab_kv.proofs.laws.store_is_bounded.Goals as goal

pub returns-clause-empty : goal.returns-clause-empty
returns-clause-empty c = first_is_empty

pub returns-clause-none : goal.returns-clause-none
returns-clause-none c = first_has_none

pub returns-clause-few : goal.returns-clause-few
returns-clause-few c = stays_few
