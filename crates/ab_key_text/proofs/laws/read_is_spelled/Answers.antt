use Rattle.ab_key_text.proofs.ReadLemmas.{commands_are_spelled, keys_are_spelled, nodes_are_spelled}
use Rattle.ab_key_text.proofs.laws.read_is_spelled.Goals as goal

pub returns-clause-keys : goal.returns-clause-keys
returns-clause-keys c = keys_are_spelled

pub returns-clause-nodes : goal.returns-clause-nodes
returns-clause-nodes c = nodes_are_spelled

pub returns-clause-commands : goal.returns-clause-commands
returns-clause-commands c = commands_are_spelled
