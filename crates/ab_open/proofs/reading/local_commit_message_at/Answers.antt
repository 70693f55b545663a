use Rattle.std.proofs.Common.{arith}
use Rattle.ab_content.proofs.ContentLemmas.{local_commit-format}
use Rattle.ab_open.proofs.reading.local_commit_message_at.Goals as goal

pub spelled-stated-requires : goal.spelled-stated-requires
spelled-stated-requires c = (local_commit-format.takes c.args.bytes.now _ _ (λ i. omega (arith, c.type_inv.bytes i)) c.in_ok-content.ensures).0.parts
