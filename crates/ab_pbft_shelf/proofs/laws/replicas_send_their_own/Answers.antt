use Rattle.ab_pbft_shelf.proofs.Owning.{signing_owns}
use Rattle.ab_pbft_shelf.proofs.laws.replicas_send_their_own.Goals as goal

pub returns : goal.returns
returns c = signing_owns
