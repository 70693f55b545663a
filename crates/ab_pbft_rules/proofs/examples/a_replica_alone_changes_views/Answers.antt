use Rattle.std.proofs.Common.{refl}
use Rattle.ab_pbft_rules.proofs.Computed.{alone_executes}
use Rattle.ab_pbft_rules.proofs.examples.a_replica_alone_changes_views.Goals as goal

pub returns : goal.returns
returns g = record { view = refl; executed = alone_executes }
