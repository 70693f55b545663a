use Rattle.ab_pbft_rules.proofs.Allowed.{reached_keeps}
use Rattle.ab_pbft_rules.proofs.laws.pbft_settles.Goals as goal

pub returns : goal.returns
returns g = λ k p reached. (reached_keeps k p reached).quiet
