-- Why a certificate that stands in received bytes has no history, or is not looked at further.
use Rattle.std.specs.Prelude.{◌≡◌, ℕ, Option, Some, None, List, [], ◌∷◌, if◌then◌else◌}
use Rattle.std.specs.Option.{IsSome}
use Rattle.ab_num.specs.declared.cluster.Cluster.{Cluster}
use Rattle.ab_num.specs.Places.{kind_of}
use Rattle.ab_hist.specs.declared.request.Request.{Request}
use Rattle.ab_msg.specs.declared.signed.Signed.{Signed}
use Rattle.ab_abs.specs.Certificates.{history_of}
use Rattle.ab_extract.specs.declared.cert.CertFault.{CertFault}
use Rattle.ab_extract.specs.declared.cert.CertFault.TheVariants as fault
use Rattle.ab_extract.specs.Certs.{log_in, all_state, first_repeat, first_foreign, first_bad, IsFull, IsApart, IsSound, IsFitting}

-- each fault, and when it is told. Memory is wanted only for a certificate that has a history
abbrev pub CauseOf : Cluster → ℕ → List Signed → CertFault → Type 0
CauseOf c i cert fault.Count = IsFull c i cert → ⊥
CauseOf c i cert (fault.SameSigner r) = IsFull c i cert × (first_repeat cert ≡ Some r)
CauseOf c i cert (fault.WrongInstance j) = IsApart c i cert × (first_foreign i cert ≡ Some j)
CauseOf c i cert (fault.BadCert r) = IsSound c i cert × (first_bad (kind_of c.plan i) c.f cert ≡ Some r)
CauseOf c i cert fault.Unequal = IsFitting c i cert × (history_of c i cert ≡ None)
CauseOf c i cert fault.OutOfMemory = IsSome (history_of c i cert)

-- the log that all state, if they state one
abbrev pub one_log : List Signed → Option (List Request)
one_log [] = None
one_log (s ∷ cert) = if all_state (log_in s.content) cert then Some (log_in s.content) else None
