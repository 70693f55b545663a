use Rattle.ab_open.proofs.OpenLemmas.{opened_right, opened_not_refused}
use Rattle.ab_open.proofs.laws.opened_messages_are_checked.Goals as goal

pub returns : goal.returns
returns c = record { right = opened_right; refused = opened_not_refused }
