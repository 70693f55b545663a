-- All that is signed in a message is among what a party checks.
use Rattle.std.proofs.Common.{◌≡◌, ℕ, suc, List, [], ◌∷◌, ◌++◌, map, Option, None, Some, refl, ap, ◌∙◌}
use Rattle.std.specs.Prelude.{flat_map}
use Rattle.std.proofs.lemmas.Grind.{flat_map-append}
use Rattle.ab_num.specs.declared.party.Party.{Party}
use Rattle.ab_msg.specs.declared.content.Content.{Content}
use Rattle.ab_msg.specs.declared.content.Content.TheVariants.{AbortZ}
use Rattle.ab_msg.specs.declared.signed.Signed.{Signed}
use Rattle.ab_msg.specs.declared.zcert.Zcert.{Zcert}
use Rattle.ab_msg.specs.declared.change.Proof.{Proof}
use Rattle.ab_msg.specs.declared.message.Msg.{Msg}
use Rattle.ab_msg.specs.declared.message.Msg.TheVariants as msg
use Rattle.ab_msg.specs.declared.message.Offer.{Offer}
use Rattle.ab_msg.specs.declared.message.Offer.TheVariants as offer
use Rattle.ab_msg.specs.Claims.{maker_of, instance_of, ordered, chain_claims}
use Rattle.ab_msg.specs.Certs.{entries_of}
use Rattle.ab_check.specs.Checks.{tagged, tag_between, answer_check, answers_checks, kept_answers, kept_checks, abort_checks, aborts_checks, slot_checks, slots_checks, proof_checks, all_checks, offer_checks, checks_of}
use Rattle.ab_audit.specs.Statements.{Statement, abort_statements, answer_by, answer_statements, kept_statements, statements_behind, change_statements, offer_statements, prepare_by, prepares_behind, signed_at, statement_of, statements_in}

tagged-none : (t : Content → Option (List ℕ)) (cs : List Content) → flat_map signed_at (map (λ c. tagged c (t c)) cs) ≡ []
tagged-none t [] = refl
tagged-none t (c ∷ cs) = tagged-none t cs

by-signed : (i : ℕ) (z : Zcert) (by : List (ℕ × List ℕ)) → flat_map signed_at (map (answer_check i z) by) ≡ map (answer_by i z) by
by-signed i z [] = refl
by-signed i z (s ∷ by) = ap (λ (l : List Statement). answer_by i z s ∷ l) (by-signed i z by)

answers-signed : (i : ℕ) (z : Zcert) → flat_map signed_at (answers_checks i z) ≡ answer_statements i z
answers-signed i z = by-signed i z z.sigs

kept_answers-signed : (i : ℕ) (z : Option Zcert) → flat_map signed_at (kept_answers i z) ≡ kept_statements i z
kept_answers-signed i None = refl
kept_answers-signed i (Some z) = answers-signed i z

kept-signed : (c : Content) → flat_map signed_at (kept_checks c) ≡ statements_behind c
kept-signed (AbortZ maker i h zcert) = kept_answers-signed i zcert
kept-signed c = refl

abort-signed : (s : Signed) → flat_map signed_at (abort_checks s) ≡ abort_statements s
abort-signed s = ap (λ (l : List Statement). statement_of s ∷ l) (kept-signed s.content)

aborts-signed : (ss : List Signed) → flat_map signed_at (aborts_checks ss) ≡ flat_map abort_statements ss
aborts-signed [] = refl
aborts-signed (s ∷ ss) =
    flat_map-append signed_at (abort_checks s) (aborts_checks ss)
    ∙ ap (λ (l : List Statement). l ++ flat_map signed_at (aborts_checks ss)) (abort-signed s)
    ∙ ap (λ (l : List Statement). abort_statements s ++ l) (aborts-signed ss)

slot-signed : (i view slot : ℕ) (x : List ℕ) (by : List (ℕ × List ℕ)) → flat_map signed_at (slot_checks i view slot x by) ≡ map (prepare_by i view slot x) by
slot-signed i view slot x [] = refl
slot-signed i view slot x (s ∷ by) = ap (λ (l : List Statement). prepare_by i view slot x s ∷ l) (slot-signed i view slot x by)

slots-signed : (i slot : ℕ) (es : List (ℕ × List ℕ)) (ps : List (List (ℕ × List ℕ))) → flat_map signed_at (slots_checks i slot es ps) ≡ prepares_behind i slot es ps
slots-signed i slot [] ps = refl
slots-signed i slot (e ∷ es) [] = refl
slots-signed i slot (e ∷ es) (by ∷ ps) =
    flat_map-append signed_at (slot_checks i e.0 slot e.1 by) (slots_checks i (suc slot) es ps)
    ∙ ap (λ (l : List Statement). l ++ flat_map signed_at (slots_checks i (suc slot) es ps)) (slot-signed i e.0 slot e.1 by)
    ∙ ap (λ (l : List Statement). map (prepare_by i e.0 slot e.1) by ++ l) (slots-signed i (suc slot) es ps)

proof-signed : (v : Proof) → flat_map signed_at (proof_checks v) ≡ change_statements v
proof-signed v = ap (λ (l : List Statement). statement_of v.change ∷ l) (slots-signed (instance_of v.change.content) 0 (entries_of v.change.content) v.prepares)

all-signed : (vs : List Proof) → flat_map signed_at (all_checks vs) ≡ flat_map change_statements vs
all-signed [] = refl
all-signed (v ∷ vs) =
    flat_map-append signed_at (proof_checks v) (all_checks vs)
    ∙ ap (λ (l : List Statement). l ++ flat_map signed_at (all_checks vs)) (proof-signed v)
    ∙ ap (λ (l : List Statement). change_statements v ++ l) (all-signed vs)

offer-signed : (i : ℕ) (o : Offer) → flat_map signed_at (offer_checks i o) ≡ offer_statements o
offer-signed i (offer.Base aborts) = aborts-signed aborts
offer-signed i (offer.Request m tag) = refl

pub checked-signed : (f : ℕ) (me : Party) (m : Msg) → flat_map signed_at (checks_of f me m) ≡ statements_in m
checked-signed f me (msg.Req content tags) = refl
checked-signed f me (msg.Order content client_tag tag) =
    flat_map-append signed_at (map (λ c. tagged c (Some client_tag)) (ordered content)) (tagged content (Some tag) ∷ [])
    ∙ ap (λ (l : List Statement). l ++ []) (tagged-none (λ _. Some client_tag) (ordered content))
checked-signed f me (msg.Resp content tag) = refl
checked-signed f me (msg.Chain i m n d reply tags) = tagged-none (λ c. tag_between (maker_of c) me tags) (chain_claims f me i m n d reply)
checked-signed f me (msg.Panic content tag) = refl
checked-signed f me (msg.Abort abort) = abort-signed abort
checked-signed f me (msg.Init cert) = aborts-signed cert
checked-signed f me (msg.PrePrepare content tag offer) = offer-signed (instance_of content) offer
checked-signed f me (msg.Prepare prepare) = refl
checked-signed f me (msg.Commit content tag) = refl
checked-signed f me (msg.ViewChange change) = proof-signed change
checked-signed f me (msg.NewView content tag changes) = all-signed changes
checked-signed f me (msg.Checkpoint content tag) = refl
checked-signed f me (msg.LocalCommit content tag) = refl
checked-signed f me (msg.Spec spec) = refl
checked-signed f me (msg.Cert i z) = answers-signed i z
