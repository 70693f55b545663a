use Rattle.ab_pbft_drafts.proofs.KeptBytes.{signing_has_quorums}
use Rattle.ab_pbft_drafts.proofs.laws.new_views_have_quorums.Goals as goal

pub returns : goal.returns
returns c = signing_has_quorums
