use Rattle.ab_stable.proofs.Offered.{held_by_one}
use Rattle.ab_stable.proofs.offers.offered_histories_are_held.Goals as goal

pub returns : goal.returns
returns c = λ x log votes h hs enough _ point meets apart has_h logs t found _. held_by_one x log votes h hs enough point meets apart has_h logs t found
