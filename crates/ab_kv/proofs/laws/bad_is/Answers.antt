use Rattle.ab_kv.proofs.RowLaws.{bad_row}
use Rattle.ab_kv.proofs.laws.bad_is.Goals as goal

pub returns : goal.returns
returns c = bad_row
