use Rattle.ab_seal.proofs.StatedLemmas.{fresh-fits}
use Rattle.ab_seal.proofs.laws.stated_contents_have_bytes.Goals as goal

pub returns : goal.returns
returns c = fresh-fits
