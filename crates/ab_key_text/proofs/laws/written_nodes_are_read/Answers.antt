use Rattle.ab_key_text.proofs.FeedLemmas.{written_node_reads}
use Rattle.ab_key_text.proofs.laws.written_nodes_are_read.Goals as goal

pub returns : goal.returns
returns c = written_node_reads
