use Rattle.ab_text.proofs.FeedLemmas.{text_spells}
use Rattle.ab_text.proofs.laws.written_is_spelled.Goals as goal

pub returns : goal.returns
returns c s good = text_spells s good
