use Rattle.ab_scheme.proofs.SchemeLemmas.{length-signature_by}
use Rattle.ab_scheme.proofs.laws.signatures_have_their_length.Goals as goal

pub returns : goal.returns
returns c = length-signature_by
