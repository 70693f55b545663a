use Rattle.ab_kv.proofs.ReadingLaws.{read_is_spelled, spelled_is_read, nothing_is_read, nothing_is_spelled, one_command}
use Rattle.ab_kv.proofs.laws.commands_are_spelled.Goals as goal

pub returns-clause-read : goal.returns-clause-read
returns-clause-read c bytes command = (read_is_spelled bytes command, spelled_is_read bytes command)

pub returns-clause-none : goal.returns-clause-none
returns-clause-none c bytes = (nothing_is_spelled bytes, nothing_is_read bytes)

pub returns-clause-one : goal.returns-clause-one
returns-clause-one c = one_command
