use Rattle.ab_check.proofs.ClaimLemmas.{checked-claims}
use Rattle.ab_check.proofs.laws.claims_are_checked.Goals as goal

pub returns : goal.returns
returns c = checked-claims
