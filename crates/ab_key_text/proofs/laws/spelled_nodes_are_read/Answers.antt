use Rattle.ab_key_text.proofs.ReadLemmas.{commands_are_read, nodes_are_read}
use Rattle.ab_key_text.proofs.laws.spelled_nodes_are_read.Goals as goal

pub returns-clause-nodes : goal.returns-clause-nodes
returns-clause-nodes c = nodes_are_read

pub returns-clause-commands : goal.returns-clause-commands
returns-clause-commands c = commands_are_read
