use Rattle.ab_pbft_rules.proofs.Computed.{primary_executes}
use Rattle.ab_pbft_rules.proofs.examples.a_primary_executes.Goals as goal

pub returns : goal.returns
returns g = primary_executes
