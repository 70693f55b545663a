use Rattle.ab_pbft_shelf.proofs.Obeying.{signing_obeys}
use Rattle.ab_pbft_shelf.proofs.laws.replicas_obey.Goals as goal

pub returns : goal.returns
returns c = signing_obeys
