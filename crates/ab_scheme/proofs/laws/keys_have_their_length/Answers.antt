use Rattle.ab_scheme.proofs.SchemeLemmas.{length-public_by}
use Rattle.ab_scheme.proofs.laws.keys_have_their_length.Goals as goal

pub returns : goal.returns
returns c = length-public_by
