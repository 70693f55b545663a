use Rattle.ab_key_text.proofs.FirstLemmas.{keys_before, lone_commands_before, no_commands_begin, no_keys_begin, no_node_begins, node_before}
use Rattle.ab_key_text.proofs.laws.fault_is_first.Goals as goal

pub returns-clause-bad : goal.returns-clause-bad
returns-clause-bad c = no_keys_begin

pub returns-clause-before : goal.returns-clause-before
returns-clause-before c = keys_before

pub returns-clause-bad_node : goal.returns-clause-bad_node
returns-clause-bad_node c = no_node_begins

pub returns-clause-before_node : goal.returns-clause-before_node
returns-clause-before_node c = node_before

pub returns-clause-bad_commands : goal.returns-clause-bad_commands
returns-clause-bad_commands c = no_commands_begin

pub returns-clause-before_commands : goal.returns-clause-before_commands
returns-clause-before_commands c = lone_commands_before
