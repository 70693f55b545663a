use Rattle.ab_key_text.proofs.FeedLemmas.{written_reads}
use Rattle.ab_key_text.proofs.laws.written_is_read.Goals as goal

pub returns : goal.returns
returns c = written_reads
