use Rattle.ab_pbft_rules.proofs.OneOrder.{one_order}
use Rattle.ab_pbft_rules.proofs.laws.pbft_is_one_order.Goals as goal

pub returns : goal.returns
returns g = λ x k acts sound. one_order x k acts sound
