use Rattle.ab_storm.proofs.Happenings.{next_can}
use Rattle.ab_storm.proofs.laws.storms_can_happen.Goals as goal

pub returns : goal.returns
returns c = next_can
