use Rattle.ab_open.proofs.OpenLemmas.{own_tags, own_prepares}
use Rattle.ab_open.proofs.laws.own_statements_are_refused.Goals as goal

pub returns : goal.returns
returns c = record { tags = own_tags; prepares = own_prepares }
