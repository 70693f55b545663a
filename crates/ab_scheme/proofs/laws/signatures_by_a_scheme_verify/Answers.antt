use Rattle.ab_scheme.proofs.SchemeLemmas.{verifies_by}
use Rattle.ab_scheme.proofs.laws.signatures_by_a_scheme_verify.Goals as goal

pub returns : goal.returns
returns c = verifies_by
