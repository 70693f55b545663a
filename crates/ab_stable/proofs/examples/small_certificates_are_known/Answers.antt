use Rattle.ab_stable.proofs.SmallVotes.{known, told, agreed}
use Rattle.ab_stable.proofs.examples.small_certificates_are_known.Goals as goal

pub returns : goal.returns
returns c = record { known = known; told = told; agreed = agreed }
