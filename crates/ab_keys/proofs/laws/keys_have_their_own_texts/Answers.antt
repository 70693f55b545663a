use Rattle.ab_keys.proofs.TextLemmas.{same_parties}
use Rattle.ab_keys.proofs.laws.keys_have_their_own_texts.Goals as goal

pub returns : goal.returns
returns c = same_parties
