use Rattle.ab_open.proofs.OpenLemmas.{opened_message}
use Rattle.ab_open.proofs.ContentLemmas.{claims-content, claims-rise}
use Rattle.ab_open.proofs.laws.opened_messages_are_of_the_grammar.Goals as goal

pub returns : goal.returns
returns c = record { grammar = opened_message; claims = claims-content; histories = claims-rise }
