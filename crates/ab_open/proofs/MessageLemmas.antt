-- The laws of messages.
use Rattle.std.proofs.Common.{◌≡◌, ℕ, ◌^◌, ◌<◌, Bool, true, false, eqb, List, length, refl, sym, subst, ◌∙◌, lit<}
use Rattle.std.proofs.lemmas.Bool.{eqb-true, eqb-false}
use Rattle.ab_hist.specs.declared.request.Request.{Request}
use Rattle.ab_form.specs.declared.bad.Bad.TheVariants.{BadCode, BadField}
use Rattle.ab_form.specs.Readers.{bytes_at}
use Rattle.ab_form.specs.Formats.{IsFormat, IsWhole, IsWithin, u8_bytes}
use Rattle.ab_form.proofs.FormatLemmas.{same-format, both-format, made-format, after-format, inject-format, either-format, never-format, whole-law}
use Rattle.ab_form.proofs.PartLemmas.{u16-format, code-format, marked-format, bytes-format, u8_text-format}
use Rattle.ab_form.specs.Lists.{AreCounted, FitsInside}
use Rattle.ab_form.proofs.ListLemmas.{along-format, u8_counted-format, optional-format}
use Rattle.ab_msg.specs.Fields.{spell_request, IsRequest}
use Rattle.ab_content.specs.Parts.{any_request_at}
use Rattle.ab_content.proofs.PartLemmas.{instance-format, any_request-format}
use Rattle.ab_msg.specs.declared.content.Content.{Content}
use Rattle.ab_msg.specs.declared.signed.Signed.{Signed}
use Rattle.ab_msg.specs.declared.change.Proof.{Proof}
use Rattle.ab_msg.specs.declared.zcert.Zcert.{Zcert}
use Rattle.ab_msg.specs.declared.message.Msg.{Msg}
use Rattle.ab_msg.specs.declared.message.Msg.TheVariants as msg
use Rattle.ab_msg.specs.declared.message.Offer.{Offer}
use Rattle.ab_msg.specs.declared.message.Offer.TheVariants as offer
use Rattle.ab_msg.specs.Fields.{IsInstance}
use Rattle.ab_content.specs.Rows.{req_at, zcert_at}
use Rattle.ab_msg.specs.Contents.{IsReq, IsOrder, IsResp, IsPanic, IsStopContent, IsPrePrepare, IsPrepare, IsCommit, IsNewView, IsCheckpoint, IsLocalCommit, IsSpec, IsZcert, spell_content, spell_zcert}
use Rattle.ab_content.proofs.ContentLemmas.{req-format, order-format, resp-format, panic-format, pre_prepare-format, commit-format, new_view-format, checkpoint-format, local_commit-format, zcert-format}
use Rattle.ab_wire.specs.Tags.{tags_at, between_at}
use Rattle.ab_msg.specs.Fields.{spell_tags, AreTags, spell_between, IsBetween}
use Rattle.ab_wire.specs.Signed.{aborts_at}
use Rattle.ab_msg.specs.Certs.{spell_aborts, IsSigned, AreAborts}
use Rattle.ab_wire.specs.Changes.{proof_at}
use Rattle.ab_msg.specs.Certs.{spell_proof, IsProof}
use Rattle.ab_open.specs.Messages.{req_message_from, order_message_from, resp_message_from, chain_message_from, panic_message_from, pre_prepare_message_from, commit_message_from, new_view_message_from, checkpoint_message_from, local_commit_message_from, cert_message_from, req_message_at, order_message_at, resp_message_at, chain_message_at, panic_message_at, abort_message_at, init_message_at, pre_prepare_message_at, prepare_message_at, commit_message_at, change_message_at, new_view_message_at, checkpoint_message_at, local_commit_message_at, spec_message_at, cert_message_at, reply_from, reply_at, ChainParts, offered_from, offer_at, body_at, message_at, message_of}
use Rattle.ab_open.proofs.Rows.{IsReqMessage, IsOrderMessage, IsRespMessage, IsChainMessage, IsPanicMessage, IsAbortMessage, IsInitMessage, IsPrePrepareMessage, IsPrepareMessage, IsCommitMessage, IsChangeMessage, IsNewViewMessage, IsCheckpointMessage, IsLocalCommitMessage, IsSpecMessage, IsCertMessage}
use Rattle.ab_msg.specs.Fields.{spell_reply, IsReply}
use Rattle.ab_msg.specs.Messages.{slot_in, spell_offer, IsOffer, code_of, spell_body, spell_message, IsMessage}
use Rattle.ab_wire.proofs.TagLemmas.{tags-format, between-format}
use Rattle.ab_wire.proofs.SignedLemmas.{signed_abort-format, signed_prepare-format, signed_spec-format, cert-format, base-format}
use Rattle.ab_wire.proofs.ChangeLemmas.{proof-format}

-- ---- parts of messages

reply-format : IsFormat reply_at spell_reply IsReply
unfolding reply_at
reply-format = made-format reply_from (λ r. r.items) _ _ _ (λ t. refl) (λ r. refl) (u8_text-format 0 72 (lit< tt))

abbrev AreChainParts : ChainParts → Type 0
AreChainParts t =
    IsInstance t.0 × (IsRequest 0 15 t.1.0 × (IsWithin 1 65535 t.1.1.0 × ((length t.1.1.1.0 ≡ 32) × (FitsInside IsReply t.1.1.1.1.0 × AreCounted 0 64 IsBetween t.1.1.1.1.1))))

base-back : (slot : ℕ) → slot ≡ 0 → (y : Offer) → IsOffer slot y → (t : List Signed) × (y ≡ offer.Base t) × AreAborts 0 7 t
base-back slot is (offer.Base aborts) g = (aborts, refl, g.1)
base-back slot is (offer.Request m tag) g = absurd (g.0 is)

offered-back : (slot : ℕ) → (slot ≡ 0 → ⊥) → (y : Offer) → IsOffer slot y → (t : Request × List ℕ) × (y ≡ offered_from t) × (IsRequest 0 15 t.0 × (length t.1 ≡ 32))
offered-back slot other (offer.Base aborts) g = absurd (other g.0)
offered-back slot other (offer.Request m tag) g = ((m, tag), refl, g.1)

offer-format : (slot : ℕ) → IsFormat (offer_at slot) spell_offer (IsOffer slot)
unfolding offer_at
offer-format slot = either-format (eqb slot 0) _ _ spell_offer (IsOffer slot)
    (λ t. inject-format offer.Base (aborts_at 0 7) spell_aborts (AreAborts 0 7) spell_offer (IsOffer slot) (λ x. refl) (λ x h. (eqb-true slot 0 t, h)) (base-back slot (eqb-true slot 0 t)) base-format)
    (λ f. inject-format offered_from _ _ (λ t. IsRequest 0 15 t.0 × (length t.1 ≡ 32)) spell_offer (IsOffer slot) (λ t. refl) (λ t h. (eqb-false slot 0 f, h)) (offered-back slot (eqb-false slot 0 f))
    (both-format any_request_at spell_request (IsRequest 0 15) (bytes_at 32) (λ tag. tag) (λ tag. length tag ≡ 32) any_request-format (bytes-format 32)))

-- ---- rows

abbrev pick : Bool → Type 0 → Type 0 → Type 0
pick true A B = A
pick false A B = B

-- what fits behind a code
abbrev IsRow : ℕ → Msg → Type 0
IsRow code m = pick (eqb code 1) (IsReqMessage m) (pick (eqb code 2) (IsOrderMessage m) (pick (eqb code 3) (IsRespMessage m) (pick (eqb code 4) (IsChainMessage m) (pick (eqb code 5) (IsPanicMessage m) (pick (eqb code 6) (IsAbortMessage m) (pick (eqb code 7) (IsInitMessage m) (pick (eqb code 8) (IsPrePrepareMessage m) (pick (eqb code 9) (IsPrepareMessage m) (pick (eqb code 10) (IsCommitMessage m) (pick (eqb code 11) (IsChangeMessage m) (pick (eqb code 12) (IsNewViewMessage m) (pick (eqb code 13) (IsCheckpointMessage m) (pick (eqb code 14) (IsLocalCommitMessage m) (pick (eqb code 15) (IsSpecMessage m) (pick (eqb code 16) (IsCertMessage m) (⊥))))))))))))))))

row : (m : Msg) → IsMessage m → IsRow (code_of m) m
row (msg.Req content tags) h = h
row (msg.Order content client_tag tag) h = h
row (msg.Resp content tag) h = h
row (msg.Chain instance m n d reply tags) h = h
row (msg.Panic content tag) h = h
row (msg.Abort abort) h = h
row (msg.Init cert) h = h
row (msg.PrePrepare content tag offer) h = h
row (msg.Prepare prepare) h = h
row (msg.Commit content tag) h = h
row (msg.ViewChange change) h = h
row (msg.NewView content tag changes) h = h
row (msg.Checkpoint content tag) h = h
row (msg.LocalCommit content tag) h = h
row (msg.Spec spec) h = h
row (msg.Cert instance zcert) h = h

abbrev Body : ℕ → Msg → Type 0
Body code m = (code_of m ≡ code) × IsMessage m

row_at : (code k : ℕ) → code ≡ k → (m : Msg) → Body code m → IsRow k m
row_at code k is m g = subst (λ (c : ℕ). IsRow c m) (g.0 ∙ is) (row m g.1)

req-back : (y : Msg) → IsReqMessage y → (t : Content × List (ℕ × List ℕ)) × (y ≡ req_message_from t) × (IsReq t.0 × AreTags t.1)
req-back (msg.Req content tags) g = ((content, tags.items), refl, g)
req-back y g = absurd g

req_message-format : (code : ℕ) → code ≡ 1 → IsFormat req_message_at spell_body (Body code)
unfolding req_message_at
req_message-format code is = inject-format req_message_from _ _ (λ t. IsReq t.0 × AreTags t.1) spell_body (Body code) (λ t. refl) (λ t h. (sym is, h)) (λ y g. req-back y (row_at code 1 is y g))
    (both-format req_at spell_content IsReq tags_at spell_tags AreTags req-format tags-format)

order-back : (y : Msg) → IsOrderMessage y → (t : Content × (List ℕ × List ℕ)) × (y ≡ order_message_from t) × (IsOrder t.0 × ((length t.1.0 ≡ 32) × (length t.1.1 ≡ 32)))
order-back (msg.Order content client_tag tag) g = ((content, (client_tag, tag)), refl, g)
order-back y g = absurd g

order_message-format : (code : ℕ) → code ≡ 2 → IsFormat order_message_at spell_body (Body code)
unfolding order_message_at
order_message-format code is = inject-format order_message_from _ _ (λ t. IsOrder t.0 × ((length t.1.0 ≡ 32) × (length t.1.1 ≡ 32))) spell_body (Body code) (λ t. refl) (λ t h. (sym is, h)) (λ y g. order-back y (row_at code 2 is y g))
    (both-format _ _ _ _ _ _ order-format (both-format _ _ _ _ _ _ (bytes-format 32) (bytes-format 32)))

resp-back : (y : Msg) → IsRespMessage y → (t : Content × List ℕ) × (y ≡ resp_message_from t) × (IsResp t.0 × (length t.1 ≡ 32))
resp-back (msg.Resp content tag) g = ((content, tag), refl, g)
resp-back y g = absurd g

resp_message-format : (code : ℕ) → code ≡ 3 → IsFormat resp_message_at spell_body (Body code)
unfolding resp_message_at
resp_message-format code is = inject-format resp_message_from _ _ (λ t. IsResp t.0 × (length t.1 ≡ 32)) spell_body (Body code) (λ t. refl) (λ t h. (sym is, h)) (λ y g. resp-back y (row_at code 3 is y g))
    (both-format _ _ _ _ _ _ resp-format (bytes-format 32))

chain-back : (y : Msg) → IsChainMessage y → (t : ChainParts) × (y ≡ chain_message_from t) × AreChainParts t
chain-back (msg.Chain instance m n d reply tags) g = ((instance, (m, (n, (d, (reply, tags))))), refl, g)
chain-back y g = absurd g

chain_message-format : (code : ℕ) → code ≡ 4 → IsFormat chain_message_at spell_body (Body code)
unfolding chain_message_at
chain_message-format code is = inject-format chain_message_from _ _ AreChainParts spell_body (Body code) (λ t. refl) (λ t h. (sym is, h)) (λ y g. chain-back y (row_at code 4 is y g))
    (both-format _ _ _ _ _ _ instance-format (both-format _ _ _ _ _ _ any_request-format (both-format _ _ _ _ _ _ (u16-format 1 65535 BadField (lit< tt)) (both-format _ _ _ _ _ _ (bytes-format 32)
    (both-format _ _ _ _ _ _ (optional-format reply_at spell_reply IsReply reply-format) (u8_counted-format 0 64 between_at spell_between IsBetween (lit< tt) between-format))))))

panic-back : (y : Msg) → IsPanicMessage y → (t : Content × List ℕ) × (y ≡ panic_message_from t) × (IsPanic t.0 × (length t.1 ≡ 32))
panic-back (msg.Panic content tag) g = ((content, tag), refl, g)
panic-back y g = absurd g

panic_message-format : (code : ℕ) → code ≡ 5 → IsFormat panic_message_at spell_body (Body code)
unfolding panic_message_at
panic_message-format code is = inject-format panic_message_from _ _ (λ t. IsPanic t.0 × (length t.1 ≡ 32)) spell_body (Body code) (λ t. refl) (λ t h. (sym is, h)) (λ y g. panic-back y (row_at code 5 is y g))
    (both-format _ _ _ _ _ _ panic-format (bytes-format 32))

abort-back : (y : Msg) → IsAbortMessage y → (t : Signed) × (y ≡ msg.Abort t) × (IsSigned IsStopContent) t
abort-back (msg.Abort abort) g = (abort, refl, g)
abort-back y g = absurd g

abort_message-format : (code : ℕ) → code ≡ 6 → IsFormat abort_message_at spell_body (Body code)
unfolding abort_message_at
abort_message-format code is = inject-format msg.Abort _ _ (IsSigned IsStopContent) spell_body (Body code) (λ t. refl) (λ t h. (sym is, h)) (λ y g. abort-back y (row_at code 6 is y g))
    (signed_abort-format)

init-back : (y : Msg) → IsInitMessage y → (t : List Signed) × (y ≡ msg.Init t) × (AreAborts 1 7) t
init-back (msg.Init cert) g = (cert, refl, g)
init-back y g = absurd g

init_message-format : (code : ℕ) → code ≡ 7 → IsFormat init_message_at spell_body (Body code)
unfolding init_message_at
init_message-format code is = inject-format msg.Init _ _ (AreAborts 1 7) spell_body (Body code) (λ t. refl) (λ t h. (sym is, h)) (λ y g. init-back y (row_at code 7 is y g))
    (cert-format)

pre_prepare-back : (y : Msg) → IsPrePrepareMessage y → (t : (Content × List ℕ) × Offer) × (y ≡ pre_prepare_message_from t) × ((IsPrePrepare t.0.0 × (length t.0.1 ≡ 32)) × IsOffer (slot_in t.0.0) t.1)
pre_prepare-back (msg.PrePrepare content tag offer) g = (((content, tag), offer), refl, g)
pre_prepare-back y g = absurd g

pre_prepare_message-format : (code : ℕ) → code ≡ 8 → IsFormat pre_prepare_message_at spell_body (Body code)
unfolding pre_prepare_message_at
pre_prepare_message-format code is = inject-format pre_prepare_message_from _ _ (λ t. (IsPrePrepare t.0.0 × (length t.0.1 ≡ 32)) × IsOffer (slot_in t.0.0) t.1) spell_body (Body code) (λ t. refl) (λ t h. (sym is, h)) (λ y g. pre_prepare-back y (row_at code 8 is y g))
    (along-format _ _ _ (λ t. offer_at (slot_in t.0)) (λ _. spell_offer) (λ t. IsOffer (slot_in t.0)) (both-format _ _ _ _ _ _ pre_prepare-format (bytes-format 32)) (λ t _. offer-format (slot_in t.0)) (λ t. (offer-format (slot_in t.0)).stays))

prepare-back : (y : Msg) → IsPrepareMessage y → (t : Signed) × (y ≡ msg.Prepare t) × (IsSigned IsPrepare) t
prepare-back (msg.Prepare prepare) g = (prepare, refl, g)
prepare-back y g = absurd g

prepare_message-format : (code : ℕ) → code ≡ 9 → IsFormat prepare_message_at spell_body (Body code)
unfolding prepare_message_at
prepare_message-format code is = inject-format msg.Prepare _ _ (IsSigned IsPrepare) spell_body (Body code) (λ t. refl) (λ t h. (sym is, h)) (λ y g. prepare-back y (row_at code 9 is y g))
    (signed_prepare-format)

commit-back : (y : Msg) → IsCommitMessage y → (t : Content × List ℕ) × (y ≡ commit_message_from t) × (IsCommit t.0 × (length t.1 ≡ 32))
commit-back (msg.Commit content tag) g = ((content, tag), refl, g)
commit-back y g = absurd g

commit_message-format : (code : ℕ) → code ≡ 10 → IsFormat commit_message_at spell_body (Body code)
unfolding commit_message_at
commit_message-format code is = inject-format commit_message_from _ _ (λ t. IsCommit t.0 × (length t.1 ≡ 32)) spell_body (Body code) (λ t. refl) (λ t h. (sym is, h)) (λ y g. commit-back y (row_at code 10 is y g))
    (both-format _ _ _ _ _ _ commit-format (bytes-format 32))

change-back : (y : Msg) → IsChangeMessage y → (t : Proof) × (y ≡ msg.ViewChange t) × IsProof t
change-back (msg.ViewChange change) g = (change, refl, g)
change-back y g = absurd g

change_message-format : (code : ℕ) → code ≡ 11 → IsFormat change_message_at spell_body (Body code)
unfolding change_message_at
change_message-format code is = inject-format msg.ViewChange _ _ IsProof spell_body (Body code) (λ t. refl) (λ t h. (sym is, h)) (λ y g. change-back y (row_at code 11 is y g))
    (proof-format)

new_view-back : (y : Msg) → IsNewViewMessage y → (t : Content × (List ℕ × List Proof)) × (y ≡ new_view_message_from t) × (IsNewView t.0 × ((length t.1.0 ≡ 32) × AreCounted 1 7 IsProof t.1.1))
new_view-back (msg.NewView content tag changes) g = ((content, (tag, changes)), refl, g)
new_view-back y g = absurd g

new_view_message-format : (code : ℕ) → code ≡ 12 → IsFormat new_view_message_at spell_body (Body code)
unfolding new_view_message_at
new_view_message-format code is = inject-format new_view_message_from _ _ (λ t. IsNewView t.0 × ((length t.1.0 ≡ 32) × AreCounted 1 7 IsProof t.1.1)) spell_body (Body code) (λ t. refl) (λ t h. (sym is, h)) (λ y g. new_view-back y (row_at code 12 is y g))
    (both-format _ _ _ _ _ _ new_view-format (both-format _ _ _ _ _ _ (bytes-format 32) (u8_counted-format 1 7 proof_at spell_proof IsProof (lit< tt) proof-format)))

checkpoint-back : (y : Msg) → IsCheckpointMessage y → (t : Content × List ℕ) × (y ≡ checkpoint_message_from t) × (IsCheckpoint t.0 × (length t.1 ≡ 32))
checkpoint-back (msg.Checkpoint content tag) g = ((content, tag), refl, g)
checkpoint-back y g = absurd g

checkpoint_message-format : (code : ℕ) → code ≡ 13 → IsFormat checkpoint_message_at spell_body (Body code)
unfolding checkpoint_message_at
checkpoint_message-format code is = inject-format checkpoint_message_from _ _ (λ t. IsCheckpoint t.0 × (length t.1 ≡ 32)) spell_body (Body code) (λ t. refl) (λ t h. (sym is, h)) (λ y g. checkpoint-back y (row_at code 13 is y g))
    (both-format _ _ _ _ _ _ checkpoint-format (bytes-format 32))

local_commit-back : (y : Msg) → IsLocalCommitMessage y → (t : Content × List ℕ) × (y ≡ local_commit_message_from t) × (IsLocalCommit t.0 × (length t.1 ≡ 32))
local_commit-back (msg.LocalCommit content tag) g = ((content, tag), refl, g)
local_commit-back y g = absurd g

local_commit_message-format : (code : ℕ) → code ≡ 14 → IsFormat local_commit_message_at spell_body (Body code)
unfolding local_commit_message_at
local_commit_message-format code is = inject-format local_commit_message_from _ _ (λ t. IsLocalCommit t.0 × (length t.1 ≡ 32)) spell_body (Body code) (λ t. refl) (λ t h. (sym is, h)) (λ y g. local_commit-back y (row_at code 14 is y g))
    (both-format _ _ _ _ _ _ local_commit-format (bytes-format 32))

spec-back : (y : Msg) → IsSpecMessage y → (t : Signed) × (y ≡ msg.Spec t) × (IsSigned IsSpec) t
spec-back (msg.Spec spec) g = (spec, refl, g)
spec-back y g = absurd g

spec_message-format : (code : ℕ) → code ≡ 15 → IsFormat spec_message_at spell_body (Body code)
unfolding spec_message_at
spec_message-format code is = inject-format msg.Spec _ _ (IsSigned IsSpec) spell_body (Body code) (λ t. refl) (λ t h. (sym is, h)) (λ y g. spec-back y (row_at code 15 is y g))
    (signed_spec-format)

cert-back : (y : Msg) → IsCertMessage y → (t : ℕ × Zcert) × (y ≡ cert_message_from t) × (IsInstance t.0 × IsZcert t.1)
cert-back (msg.Cert instance zcert) g = ((instance, zcert), refl, g)
cert-back y g = absurd g

cert_message-format : (code : ℕ) → code ≡ 16 → IsFormat cert_message_at spell_body (Body code)
unfolding cert_message_at
cert_message-format code is = inject-format cert_message_from _ _ (λ t. IsInstance t.0 × IsZcert t.1) spell_body (Body code) (λ t. refl) (λ t h. (sym is, h)) (λ y g. cert-back y (row_at code 16 is y g))
    (both-format _ _ _ _ _ _ instance-format (marked-format 1 BadField zcert_at spell_zcert IsZcert (lit< tt) zcert-format))

no-body : (code : ℕ) → (code ≡ 1 → ⊥) → (code ≡ 2 → ⊥) → (code ≡ 3 → ⊥) → (code ≡ 4 → ⊥) → (code ≡ 5 → ⊥) → (code ≡ 6 → ⊥) → (code ≡ 7 → ⊥) → (code ≡ 8 → ⊥) → (code ≡ 9 → ⊥) → (code ≡ 10 → ⊥) → (code ≡ 11 → ⊥) → (code ≡ 12 → ⊥) → (code ≡ 13 → ⊥) → (code ≡ 14 → ⊥) → (code ≡ 15 → ⊥) → (code ≡ 16 → ⊥) → (m : Msg) → Body code m → ⊥
no-body code n1 n2 n3 n4 n5 n6 n7 n8 n9 n10 n11 n12 n13 n14 n15 n16 (msg.Req content tags) g = n1 (sym g.0)
no-body code n1 n2 n3 n4 n5 n6 n7 n8 n9 n10 n11 n12 n13 n14 n15 n16 (msg.Order content client_tag tag) g = n2 (sym g.0)
no-body code n1 n2 n3 n4 n5 n6 n7 n8 n9 n10 n11 n12 n13 n14 n15 n16 (msg.Resp content tag) g = n3 (sym g.0)
no-body code n1 n2 n3 n4 n5 n6 n7 n8 n9 n10 n11 n12 n13 n14 n15 n16 (msg.Chain instance m n d reply tags) g = n4 (sym g.0)
no-body code n1 n2 n3 n4 n5 n6 n7 n8 n9 n10 n11 n12 n13 n14 n15 n16 (msg.Panic content tag) g = n5 (sym g.0)
no-body code n1 n2 n3 n4 n5 n6 n7 n8 n9 n10 n11 n12 n13 n14 n15 n16 (msg.Abort abort) g = n6 (sym g.0)
no-body code n1 n2 n3 n4 n5 n6 n7 n8 n9 n10 n11 n12 n13 n14 n15 n16 (msg.Init cert) g = n7 (sym g.0)
no-body code n1 n2 n3 n4 n5 n6 n7 n8 n9 n10 n11 n12 n13 n14 n15 n16 (msg.PrePrepare content tag offer) g = n8 (sym g.0)
no-body code n1 n2 n3 n4 n5 n6 n7 n8 n9 n10 n11 n12 n13 n14 n15 n16 (msg.Prepare prepare) g = n9 (sym g.0)
no-body code n1 n2 n3 n4 n5 n6 n7 n8 n9 n10 n11 n12 n13 n14 n15 n16 (msg.Commit content tag) g = n10 (sym g.0)
no-body code n1 n2 n3 n4 n5 n6 n7 n8 n9 n10 n11 n12 n13 n14 n15 n16 (msg.ViewChange change) g = n11 (sym g.0)
no-body code n1 n2 n3 n4 n5 n6 n7 n8 n9 n10 n11 n12 n13 n14 n15 n16 (msg.NewView content tag changes) g = n12 (sym g.0)
no-body code n1 n2 n3 n4 n5 n6 n7 n8 n9 n10 n11 n12 n13 n14 n15 n16 (msg.Checkpoint content tag) g = n13 (sym g.0)
no-body code n1 n2 n3 n4 n5 n6 n7 n8 n9 n10 n11 n12 n13 n14 n15 n16 (msg.LocalCommit content tag) g = n14 (sym g.0)
no-body code n1 n2 n3 n4 n5 n6 n7 n8 n9 n10 n11 n12 n13 n14 n15 n16 (msg.Spec spec) g = n15 (sym g.0)
no-body code n1 n2 n3 n4 n5 n6 n7 n8 n9 n10 n11 n12 n13 n14 n15 n16 (msg.Cert instance zcert) g = n16 (sym g.0)

body-format : (code : ℕ) → IsFormat (body_at code) spell_body (Body code)
body-format code =
    either-format (eqb code 1) _ _ spell_body (Body code) (λ t. req_message-format code (eqb-true code 1 t)) (λ f1.
    either-format (eqb code 2) _ _ spell_body (Body code) (λ t. order_message-format code (eqb-true code 2 t)) (λ f2.
    either-format (eqb code 3) _ _ spell_body (Body code) (λ t. resp_message-format code (eqb-true code 3 t)) (λ f3.
    either-format (eqb code 4) _ _ spell_body (Body code) (λ t. chain_message-format code (eqb-true code 4 t)) (λ f4.
    either-format (eqb code 5) _ _ spell_body (Body code) (λ t. panic_message-format code (eqb-true code 5 t)) (λ f5.
    either-format (eqb code 6) _ _ spell_body (Body code) (λ t. abort_message-format code (eqb-true code 6 t)) (λ f6.
    either-format (eqb code 7) _ _ spell_body (Body code) (λ t. init_message-format code (eqb-true code 7 t)) (λ f7.
    either-format (eqb code 8) _ _ spell_body (Body code) (λ t. pre_prepare_message-format code (eqb-true code 8 t)) (λ f8.
    either-format (eqb code 9) _ _ spell_body (Body code) (λ t. prepare_message-format code (eqb-true code 9 t)) (λ f9.
    either-format (eqb code 10) _ _ spell_body (Body code) (λ t. commit_message-format code (eqb-true code 10 t)) (λ f10.
    either-format (eqb code 11) _ _ spell_body (Body code) (λ t. change_message-format code (eqb-true code 11 t)) (λ f11.
    either-format (eqb code 12) _ _ spell_body (Body code) (λ t. new_view_message-format code (eqb-true code 12 t)) (λ f12.
    either-format (eqb code 13) _ _ spell_body (Body code) (λ t. checkpoint_message-format code (eqb-true code 13 t)) (λ f13.
    either-format (eqb code 14) _ _ spell_body (Body code) (λ t. local_commit_message-format code (eqb-true code 14 t)) (λ f14.
    either-format (eqb code 15) _ _ spell_body (Body code) (λ t. spec_message-format code (eqb-true code 15 t)) (λ f15.
    either-format (eqb code 16) _ _ spell_body (Body code) (λ t. cert_message-format code (eqb-true code 16 t)) (λ f16.
    never-format BadCode spell_body (Body code) (no-body code (eqb-false code 1 f1) (eqb-false code 2 f2) (eqb-false code 3 f3) (eqb-false code 4 f4) (eqb-false code 5 f5) (eqb-false code 6 f6) (eqb-false code 7 f7) (eqb-false code 8 f8) (eqb-false code 9 f9) (eqb-false code 10 f10) (eqb-false code 11 f11) (eqb-false code 12 f12) (eqb-false code 13 f13) (eqb-false code 14 f14) (eqb-false code 15 f15) (eqb-false code 16 f16))))))))))))))))))

code-fits : (m : Msg) → code_of m < 2 ^ 8
code-fits (msg.Req content tags) = lit< tt
code-fits (msg.Order content client_tag tag) = lit< tt
code-fits (msg.Resp content tag) = lit< tt
code-fits (msg.Chain instance m n d reply tags) = lit< tt
code-fits (msg.Panic content tag) = lit< tt
code-fits (msg.Abort abort) = lit< tt
code-fits (msg.Init cert) = lit< tt
code-fits (msg.PrePrepare content tag offer) = lit< tt
code-fits (msg.Prepare prepare) = lit< tt
code-fits (msg.Commit content tag) = lit< tt
code-fits (msg.ViewChange change) = lit< tt
code-fits (msg.NewView content tag changes) = lit< tt
code-fits (msg.Checkpoint content tag) = lit< tt
code-fits (msg.LocalCommit content tag) = lit< tt
code-fits (msg.Spec spec) = lit< tt
code-fits (msg.Cert instance zcert) = lit< tt

pub message-format : IsFormat message_at spell_message IsMessage
unfolding message_at
message-format = same-format _ spell_message _ IsMessage (λ m h. h.1) (λ m h. (code-fits m, h))
    (after-format code_of _ u8_bytes _ body_at spell_body IsMessage code-format (λ code _. body-format code) (λ code. (body-format code).stays))

pub message-law : IsWhole message_of spell_message IsMessage
unfolding message_of
message-law = whole-law message_at spell_message IsMessage message-format
