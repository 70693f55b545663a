use Rattle.ab_audit_text.proofs.TextLemmas.{spelled_reads}
use Rattle.ab_audit_text.proofs.laws.spelled_is_read.Goals as goal

pub returns : goal.returns
returns c = spelled_reads
