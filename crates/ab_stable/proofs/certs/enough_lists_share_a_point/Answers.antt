use Rattle.ab_stable.proofs.WholeCerts.{a_point}
use Rattle.ab_stable.proofs.certs.enough_lists_share_a_point.Goals as goal

pub returns : goal.returns
returns c = a_point
