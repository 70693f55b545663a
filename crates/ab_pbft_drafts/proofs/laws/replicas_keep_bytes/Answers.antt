use Rattle.ab_pbft_drafts.proofs.KeptBytes.{signing_keeps_bytes}
use Rattle.ab_pbft_drafts.proofs.laws.replicas_keep_bytes.Goals as goal

pub returns : goal.returns
returns c = signing_keeps_bytes
