use Rattle.std.proofs.Common.{ℕ, ◌<◌, get_or}
use Rattle.ab_msg.specs.declared.signed.Signed.{Signed as SignedContent}
use Rattle.ab_extract.specs.Certs.{IsAbort}
use Rattle.ab_protocol_trials.proofs.certificates.are_aborts.Given as goal

abbrev pub invariant-loop-s : goal.invariant-loop-s
invariant-loop-s l = (j : ℕ) (d : SignedContent) → j < l.s-index → IsAbort l.replicas (get_or l.aborts j d)
