use Rattle.ab_scheme.proofs.SchemeLemmas.{verified_by-decides}
use Rattle.ab_scheme.proofs.laws.scheme_verification_is_a_test.Goals as goal

pub returns : goal.returns
returns c = verified_by-decides
