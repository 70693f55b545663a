use Rattle.ab_pbft_rules.proofs.OrderlyOrderer.{pbft_orderly}
use Rattle.ab_pbft_rules.proofs.LawfulOrderer.{pbft_lawful}
use Rattle.ab_pbft_rules.proofs.laws.pbft_is_lawful.Goals as goal

pub returns : goal.returns
returns g = record { orderly = pbft_orderly; lawful = pbft_lawful }
