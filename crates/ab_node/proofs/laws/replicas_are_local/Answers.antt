use Rattle.ab_node.proofs.LocalLemmas.{replica_local}
use Rattle.ab_node.proofs.laws.replicas_are_local.Goals as goal

pub returns : goal.returns
returns g c = λ k proto counted m events. replica_local k proto counted m events
