use Rattle.ab_key_text.proofs.RoundLemmas.{spelled_reads}
use Rattle.ab_key_text.proofs.laws.spelled_is_read.Goals as goal

pub returns : goal.returns
returns c = spelled_reads
