use Rattle.ab_stable.proofs.Offered.{base_from_list, base_from_whole, base_untrimmed}
use Rattle.ab_stable.proofs.offers.bases_are_offered.Goals as goal

pub returns : goal.returns
returns c = record { list = λ k own t b le. base_from_list k own t le b; whole = base_from_whole; plain = base_untrimmed }
