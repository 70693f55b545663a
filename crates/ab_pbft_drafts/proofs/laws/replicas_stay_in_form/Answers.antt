use Rattle.ab_pbft_drafts.proofs.KeptBytes.{signing_in_form}
use Rattle.ab_pbft_drafts.proofs.laws.replicas_stay_in_form.Goals as goal

pub returns : goal.returns
returns c = signing_in_form
