use Rattle.ab_cluster.proofs.ConclusionLemmas.{all_well, unknown_rose}
use Rattle.ab_cluster.proofs.laws.conclusions_are_counted.Goals as goal

pub returns-clause-unknown : goal.returns-clause-unknown
returns-clause-unknown c = unknown_rose

pub returns-clause-well : goal.returns-clause-well
returns-clause-well c = all_well
