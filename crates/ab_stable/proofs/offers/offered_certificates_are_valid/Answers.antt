use Rattle.ab_stable.proofs.Offered.{valid}
use Rattle.ab_stable.proofs.offers.offered_certificates_are_valid.Goals as goal

pub returns : goal.returns
returns c = λ x log votes h hs enough within point meets apart has_h logs. valid x log votes h hs enough point meets apart has_h logs within
