use Rattle.ab_node.proofs.LocalLemmas.{client_local}
use Rattle.ab_node.proofs.laws.clients_are_local.Goals as goal

pub returns : goal.returns
returns c = λ k m events. client_local k m events
