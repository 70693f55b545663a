use Rattle.ab_audit.proofs.StatementLemmas.{checked-signed}
use Rattle.ab_audit.proofs.laws.signed_statements_are_checked.Goals as goal

pub returns : goal.returns
returns c = checked-signed
