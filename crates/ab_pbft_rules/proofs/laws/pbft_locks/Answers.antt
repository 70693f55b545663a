use Rattle.ab_pbft_rules.proofs.LockedActs.{locked}
use Rattle.ab_pbft_rules.proofs.laws.pbft_locks.Goals as goal

pub returns : goal.returns
returns g = λ x k acts sound. locked x k acts sound
