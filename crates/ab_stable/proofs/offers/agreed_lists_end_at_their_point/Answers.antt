use Rattle.ab_stable.proofs.FoundLists.{found_agrees}
use Rattle.ab_stable.proofs.Offered.{ends_at_point}
use Rattle.ab_stable.proofs.offers.agreed_lists_end_at_their_point.Goals as goal

pub returns : goal.returns
returns c = λ q ts t some is. ends_at_point q ts t (found_agrees q ts some t is)
