-- What a client sends is its own and gets bytes, if its request does.
use Rattle.std.proofs.Common.{◌≡◌, ℕ, zero, suc, ◌+◌, ◌*◌, ◌≤◌, Option, Some, None, List, [], ◌∷◌, ◌++◌, arith, sym, ap}
use Rattle.std.specs.Prelude.{All}
use Rattle.std.specs.List.{Contains}
use Rattle.std.proofs.lemmas.List.Elements.{All-nil, All-push, All-append}
use Rattle.ab_num.specs.declared.cluster.Cluster.{Cluster}
use Rattle.ab_num.specs.declared.plan.Kind.{Kind}
use Rattle.ab_num.specs.declared.plan.Kind.TheVariants as kind
use Rattle.ab_num.specs.declared.party.Party.{Party}
use Rattle.ab_num.specs.declared.party.Party.TheVariants.{Replica, Client}
use Rattle.ab_hist.specs.declared.request.Request.{Request}
use Rattle.ab_msg.specs.declared.content.Content.{Content}
use Rattle.ab_msg.specs.declared.content.Content.TheVariants.{Req, Panic}
use Rattle.ab_msg.specs.declared.message.Msg.{Msg}
use Rattle.ab_msg.specs.declared.message.Msg.TheVariants as msg
use Rattle.ab_msg.specs.declared.signed.Signed.{Signed}
use Rattle.ab_msg.specs.declared.message.Out.{Out}
use Rattle.ab_form.specs.Lists.{FitsInside}
use Rattle.ab_msg.specs.Certs.{AreAborts}
use Rattle.ab_msg.specs.Fields.{IsInstance}
use Rattle.ab_msg.specs.Claims.{maker_of}
use Rattle.ab_msg.specs.declared.zcert.Zcert.{Zcert}
use Rattle.ab_msg.specs.Contents.{IsZcert}
use Rattle.ab_msg.specs.Messages.{IsDraft}
use Rattle.ab_run.specs.Clients.{to_all, to_targets, request_out, cert_out}
use Rattle.ab_num.specs.Places.{kind_of}
use Rattle.ab_client.specs.Clients.{alone, request_msg, panic_msg}
use Rattle.ab_run.specs.Forms.{IsDraftOf}

only : (s t : Content) → Contains (s ∷ []) t → t ≡ s
only s t (zero, lt, is) = sym is
only s t (suc n, lt, is) = absurd (omega (arith, lt))

none_in : (t : Content) → Contains [] t → ⊥
none_in t (n, lt, is) = omega (arith, lt)

-- a message that its maker states goes to whomever it goes to as a draft
module _ (f : ℕ) (p : Party) (m : Msg) (each : (to : Party) → IsDraftOf f p (record { to = to; msg = m })) where
  one_of : (r : ℕ) → All (IsDraftOf f p) (record { to = Replica r; msg = m } ∷ [])
  one_of r = All-push (IsDraftOf f p) [] (record { to = Replica r; msg = m }) (All-nil (IsDraftOf f p)) (each (Replica r))

  pub drafts_to_all : (n : ℕ) → All (IsDraftOf f p) (to_all n m)
  drafts_to_all zero = All-nil (IsDraftOf f p)
  drafts_to_all (suc n) = All-push (IsDraftOf f p) (to_all n m) (record { to = Replica n; msg = m }) (drafts_to_all n) (each (Replica n))

  pub drafts_to_targets : (c : Cluster) (k : Kind) (i : ℕ) → All (IsDraftOf f p) (to_targets (alone c) k i m)
  drafts_to_targets c kind.Quorum i = drafts_to_all (3 * c.f + 1)
  drafts_to_targets c kind.ZLight i = one_of _
  drafts_to_targets c kind.Chain i = one_of _
  drafts_to_targets c kind.Backup i = drafts_to_all (3 * c.f + 1)
  drafts_to_targets c kind.ZCert i = one_of _

request_draft : (f i : ℕ) (m : Request) → IsDraft (request_msg i m) → (to : Party) → IsDraftOf f (Client m.client) (record { to = to; msg = request_msg i m })
request_draft f i m draft to = record { draft = draft; own = λ s has. ap maker_of (only (Req (Client m.client) i m) s has) }

-- a client's request
pub requests_are_drafts : (c : Cluster) (i : ℕ) (m : Request) → IsDraft (request_msg i m) → All (IsDraftOf c.f (Client m.client)) (request_out (alone c) i m.client m)
requests_are_drafts c i m draft = drafts_to_targets c.f (Client m.client) (request_msg i m) (request_draft c.f i m draft) c (kind_of c.plan i) i

-- the certificate by which it entered
pub certs_are_drafts : (c : Cluster) (p : Party) (cert : Option (List Signed)) → FitsInside (AreAborts 1 7) cert → All (IsDraftOf c.f p) (cert_out (alone c) cert)
certs_are_drafts c p None fits = All-nil (IsDraftOf c.f p)
certs_are_drafts c p (Some cert) fits =
    drafts_to_all c.f p (msg.Init cert) (λ to. record { draft = fits; own = λ s has. absurd (none_in s has) }) (3 * c.f + 1)

-- a certificate of answers
pub zcerts_are_drafts : (c : Cluster) (p : Party) (i : ℕ) (z : Zcert) → IsInstance i → IsZcert z → All (IsDraftOf c.f p) (to_all (3 * c.f + 1) (msg.Cert i z))
zcerts_are_drafts c p i z placed fits =
    drafts_to_all c.f p (msg.Cert i z) (λ to. record { draft = (placed, fits); own = λ s has. absurd (none_in s has) }) (3 * c.f + 1)

-- and what asks the replicas to stop
pub panics_are_drafts : (c : Cluster) (i me : ℕ) → IsInstance i → me ≤ 15 → All (IsDraftOf c.f (Client me)) (to_all (3 * c.f + 1) (panic_msg i me))
unfolding panic_msg
panics_are_drafts c i me placed few =
    drafts_to_all c.f (Client me) (panic_msg i me)
    (λ to. record { draft = ((omega arith, few), placed); own = λ s has. ap maker_of (only (Panic (Client me) i) s has) }) (3 * c.f + 1)

pub both_are_drafts : (f : ℕ) (p : Party) (xs ys : List Out) → All (IsDraftOf f p) xs → All (IsDraftOf f p) ys → All (IsDraftOf f p) (xs ++ ys)
both_are_drafts f p xs ys = All-append (IsDraftOf f p) xs ys
