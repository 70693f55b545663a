-- What a party checks of a message, in order.
use Rattle.std.specs.Prelude.{ℕ, suc, List, [], ◌∷◌, ◌++◌, map, Bool, true, false, ◌&&◌, Option, Some, None, Result, Ok, Err, if◌then◌else◌}
use Rattle.arrayvec.specs.ArrayVec.{ArrayVec}
use Rattle.ab_num.specs.declared.party.Party.{Party}
use Rattle.ab_num.specs.declared.party.Party.TheVariants.{Replica, Client}
use Rattle.ab_num.specs.Parties.{party_eq}
use Rattle.ab_msg.specs.declared.content.Content.{Content}
use Rattle.ab_msg.specs.declared.content.Content.TheVariants.{Prepare, AbortZ}
use Rattle.ab_msg.specs.declared.signed.Signed.{Signed}
use Rattle.ab_msg.specs.declared.change.Proof.{Proof}
use Rattle.ab_msg.specs.declared.zcert.Zcert.{Zcert}
use Rattle.ab_msg.specs.declared.chain_tags.TagBetween.{TagBetween}
use Rattle.ab_msg.specs.declared.message.Msg.{Msg}
use Rattle.ab_msg.specs.declared.message.Msg.TheVariants as msg
use Rattle.ab_msg.specs.declared.message.Offer.{Offer}
use Rattle.ab_msg.specs.declared.message.Offer.TheVariants as offer
use Rattle.ab_msg.specs.Claims.{maker_of, instance_of, asked, ordered, chain_claims, spec_of}
use Rattle.ab_msg.specs.Contents.{spell_content}
use Rattle.ab_msg.specs.Certs.{entries_of}
use Rattle.ab_wire.specs.Inside.{tag_in}

-- what stands for a statement: a tag, if there is one, or a signature
pub data Token : Type 0 where
  by_tag : Option (List ℕ) → Token
  by_sig : List ℕ → Token

-- a content, and what stands for it
pub record Check : Type 0 where
  pub content : Content
  pub token : Token

-- who tells whether what stands for a text is right, by its maker
abbrev pub Judge : Type 0
Judge = Party → List ℕ → Token → Bool

abbrev pub is_right : Judge → Check → Bool
is_right judge k = judge (maker_of k.content) (spell_content k.content) k.token

-- the place behind checks that are all right, or that of the first that isn't, where the first of them has place n
abbrev pub checked_from : Judge → ℕ → List Check → Result ℕ ℕ
checked_from judge n [] = Ok n
checked_from judge n (k ∷ ks) = if is_right judge k then checked_from judge (suc n) ks else Err n

-- ---- parts of messages

abbrev pub tagged : Content → Option (List ℕ) → Check
tagged c tag = record { content = c; token = by_tag tag }

abbrev pub signed_check : Signed → Check
signed_check s = record { content = s.content; token = by_sig s.sig }

-- an answer in a certificate of answers, by one of those who signed it
abbrev pub answer_check : ℕ → Zcert → ℕ × List ℕ → Check
answer_check instance z s = record { content = spec_of instance z s.0; token = by_sig s.1 }

abbrev pub answers_checks : ℕ → Zcert → List Check
answers_checks instance z = map (answer_check instance z) z.sigs

abbrev pub kept_answers : ℕ → Option Zcert → List Check
kept_answers instance None = []
kept_answers instance (Some z) = answers_checks instance z

-- the answers in the certificate that an ABORT holds
abbrev pub kept_checks : Content → List Check
kept_checks (AbortZ maker instance history zcert) = kept_answers instance zcert
kept_checks _ = []

-- its own signature, and then those of the answers that it holds
abbrev pub abort_checks : Signed → List Check
abort_checks s = signed_check s ∷ kept_checks s.content

-- of ABORTs, one after the other
abbrev pub aborts_checks : List Signed → List Check
aborts_checks [] = []
aborts_checks (s ∷ ss) = abort_checks s ++ aborts_checks ss

-- the PREPARE of a slot, by one of those who signed it
abbrev pub prepare_check : ℕ → ℕ → ℕ → List ℕ → ℕ × List ℕ → Check
prepare_check instance view slot x s = record { content = Prepare (Replica s.0) instance view slot x; token = by_sig s.1 }

abbrev pub slot_checks : ℕ → ℕ → ℕ → List ℕ → List (ℕ × List ℕ) → List Check
slot_checks instance view slot x by = map (prepare_check instance view slot x) by

-- the PREPAREs of a view change, slot by slot from this slot on
abbrev pub slots_checks : ℕ → ℕ → List (ℕ × List ℕ) → List (List (ℕ × List ℕ)) → List Check
slots_checks instance slot [] prepares = []
slots_checks instance slot (e ∷ entries) [] = []
slots_checks instance slot (e ∷ entries) (by ∷ prepares) = slot_checks instance e.0 slot e.1 by ++ slots_checks instance (suc slot) entries prepares

abbrev pub proof_checks : Proof → List Check
proof_checks v = signed_check v.change ∷ slots_checks (instance_of v.change.content) 0 (entries_of v.change.content) v.prepares

-- of view changes, one after the other
abbrev pub all_checks : List Proof → List Check
all_checks [] = []
all_checks (v ∷ vs) = proof_checks v ++ all_checks vs

abbrev pub offer_checks : ℕ → Offer → List Check
offer_checks i (offer.Base aborts) = aborts_checks aborts
offer_checks i (offer.Request m tag) = tagged (asked i m) (Some tag) ∷ []

-- the first tag of one party for another
abbrev pub tag_between : Party → Party → List TagBetween → Option (List ℕ)
tag_between by to [] = None
tag_between by to (t ∷ tags) = if party_eq t.by by && party_eq t.to to then Some t.tag else tag_between by to tags

-- the tag for a party among tags for replicas
abbrev pub tag_of : Party → List (ℕ × List ℕ) → Option (List ℕ)
tag_of (Replica r) tags = tag_in r tags
tag_of (Client c) tags = None

-- ---- messages

-- what a party checks of a message, in this order, where f replicas may be faulty
abbrev pub checks_of : ℕ → Party → Msg → List Check
checks_of f me (msg.Req content tags) = tagged content (tag_of me tags.items) ∷ []
checks_of f me (msg.Order content client_tag tag) = map (λ c. tagged c (Some client_tag)) (ordered content) ++ tagged content (Some tag) ∷ []
checks_of f me (msg.Resp content tag) = tagged content (Some tag) ∷ []
checks_of f me (msg.Chain i m n d reply tags) = map (λ c. tagged c (tag_between (maker_of c) me tags)) (chain_claims f me i m n d reply)
checks_of f me (msg.Panic content tag) = tagged content (Some tag) ∷ []
checks_of f me (msg.Abort abort) = abort_checks abort
checks_of f me (msg.Init cert) = aborts_checks cert
checks_of f me (msg.PrePrepare content tag offer) = tagged content (Some tag) ∷ offer_checks (instance_of content) offer
checks_of f me (msg.Prepare prepare) = signed_check prepare ∷ []
checks_of f me (msg.Commit content tag) = tagged content (Some tag) ∷ []
checks_of f me (msg.ViewChange change) = proof_checks change
checks_of f me (msg.NewView content tag changes) = tagged content (Some tag) ∷ all_checks changes
checks_of f me (msg.Checkpoint content tag) = tagged content (Some tag) ∷ []
checks_of f me (msg.LocalCommit content tag) = tagged content (Some tag) ∷ []
checks_of f me (msg.Spec spec) = signed_check spec ∷ []
checks_of f me (msg.Cert i z) = answers_checks i z

-- whether a client is handed no reply
abbrev pub lacks_reply : Party → Option (ArrayVec ℕ) → Bool
lacks_reply (Client c) None = true
lacks_reply p reply = false

-- whether nothing can stand for the first claim: of a CHAIN without a reply at its client, and of a PREPARE of the party itself. Its own
-- signatures count within certificates and view changes alone
abbrev pub is_refused : Party → Msg → Bool
is_refused me (msg.Chain i m n d reply tags) = lacks_reply me reply
is_refused me (msg.Prepare prepare) = party_eq (maker_of prepare.content) me
is_refused me _ = false

-- that all are right, or the place of the first that isn't
abbrev pub outcome : Result ℕ ℕ → Result (Unit {0}) ℕ
outcome (Ok behind) = Ok tt
outcome (Err place) = Err place

-- what a party finds as it checks a message
abbrev pub checks : Judge → ℕ → Party → Msg → Result (Unit {0}) ℕ
checks judge f me m = if is_refused me m then Err 0 else outcome (checked_from judge 0 (checks_of f me m))
