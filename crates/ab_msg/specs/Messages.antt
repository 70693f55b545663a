-- Messages: which are of the grammar, and how they are spelled.
use Rattle.std.specs.Prelude.{◌≡◌, ℕ, ◌≤◌, Some, List, ◌++◌, length}
use Rattle.ab_form.specs.Formats.{IsWithin, u8_bytes, u16_bytes, u32_bytes}
use Rattle.ab_form.specs.Lists.{u8_list, AreCounted, spell_optional, FitsInside}
use Rattle.ab_msg.specs.declared.content.Content.{Content}
use Rattle.ab_msg.specs.declared.content.Content.TheVariants.{PrePrepare}
use Rattle.ab_msg.specs.declared.message.Msg.{Msg}
use Rattle.ab_msg.specs.declared.message.Msg.TheVariants as msg
use Rattle.ab_msg.specs.declared.message.Offer.{Offer}
use Rattle.ab_msg.specs.declared.message.Offer.TheVariants as offer
use Rattle.ab_msg.specs.Fields.{IsInstance, IsRequest, spell_request, IsReply, spell_reply, AreTags, spell_tags, IsBetween, spell_between}
use Rattle.ab_msg.specs.Contents.{IsReq, IsOrder, IsResp, IsPanic, IsStopContent, IsPrePrepare, IsPrepare, IsCommit, IsNewView, IsCheckpoint, IsSpec, IsLocalCommit, IsZcert, spell_zcert, spell_content}
use Rattle.ab_msg.specs.Certs.{IsSigned, spell_signed, AreAborts, spell_aborts, IsProof, spell_proof}

-- ---- what a PRE-PREPARE offers

abbrev pub slot_in : Content → ℕ
slot_in (PrePrepare maker instance view slot x) = slot
slot_in _ = 0

-- a certificate for slot 0, and for another slot a request with its client's tag
abbrev pub IsOffer : ℕ → Offer → Type 0
IsOffer slot (offer.Base aborts) = (slot ≡ 0) × AreAborts 0 7 aborts
IsOffer slot (offer.Request m tag) = (slot ≡ 0 → ⊥) × (IsRequest 0 15 m × (length tag ≡ 32))

abbrev pub spell_offer : Offer → List ℕ
spell_offer (offer.Base aborts) = spell_aborts aborts
spell_offer (offer.Request m tag) = spell_request m ++ tag

-- ---- messages

-- a message of the grammar
abbrev pub IsMessage : Msg → Type 0
IsMessage (msg.Req content tags) = IsReq content × AreTags tags.items
IsMessage (msg.Order content client_tag tag) = IsOrder content × ((length client_tag ≡ 32) × (length tag ≡ 32))
IsMessage (msg.Resp content tag) = IsResp content × (length tag ≡ 32)
IsMessage (msg.Chain instance m n d reply tags) =
    IsInstance instance × (IsRequest 0 15 m × (IsWithin 1 65535 n × ((length d ≡ 32) × (FitsInside IsReply reply × AreCounted 0 64 IsBetween tags))))
IsMessage (msg.Panic content tag) = IsPanic content × (length tag ≡ 32)
IsMessage (msg.Abort abort) = IsSigned IsStopContent abort
IsMessage (msg.Init cert) = AreAborts 1 7 cert
IsMessage (msg.PrePrepare content tag offer) = (IsPrePrepare content × (length tag ≡ 32)) × IsOffer (slot_in content) offer
IsMessage (msg.Prepare prepare) = IsSigned IsPrepare prepare
IsMessage (msg.Commit content tag) = IsCommit content × (length tag ≡ 32)
IsMessage (msg.ViewChange change) = IsProof change
IsMessage (msg.NewView content tag changes) = IsNewView content × ((length tag ≡ 32) × AreCounted 1 7 IsProof changes)
IsMessage (msg.Checkpoint content tag) = IsCheckpoint content × (length tag ≡ 32)
IsMessage (msg.LocalCommit content tag) = IsLocalCommit content × (length tag ≡ 32)
IsMessage (msg.Spec spec) = IsSigned IsSpec spec
IsMessage (msg.Cert instance zcert) = IsInstance instance × IsZcert zcert

-- a message but for the tags of its maker, which it gets as it is sealed. In a CHAIN there is room for the three that a position makes, and a
-- NEW-VIEW has the view changes of 2f + 1 replicas, so at most five
abbrev pub IsDraft : Msg → Type 0
IsDraft (msg.Req content tags) = IsReq content
IsDraft (msg.Order content client_tag tag) = IsOrder content × (length client_tag ≡ 32)
IsDraft (msg.Resp content tag) = IsResp content
IsDraft (msg.Chain instance m n d reply tags) =
    IsInstance instance × (IsRequest 0 15 m × (IsWithin 1 65535 n × ((length d ≡ 32) × (FitsInside IsReply reply × AreCounted 0 61 IsBetween tags))))
IsDraft (msg.Panic content tag) = IsPanic content
IsDraft (msg.Abort abort) = IsSigned IsStopContent abort
IsDraft (msg.Init cert) = AreAborts 1 7 cert
IsDraft (msg.PrePrepare content tag offer) = IsPrePrepare content × IsOffer (slot_in content) offer
IsDraft (msg.Prepare prepare) = IsSigned IsPrepare prepare
IsDraft (msg.Commit content tag) = IsCommit content
IsDraft (msg.ViewChange change) = IsProof change
IsDraft (msg.NewView content tag changes) = IsNewView content × AreCounted 1 5 IsProof changes
IsDraft (msg.Checkpoint content tag) = IsCheckpoint content
IsDraft (msg.LocalCommit content tag) = IsLocalCommit content
IsDraft (msg.Spec spec) = IsSigned IsSpec spec
IsDraft (msg.Cert instance zcert) = IsInstance instance × IsZcert zcert

-- with no more view changes than a draft may have
abbrev pub HasFewChanges : Msg → Type 0
HasFewChanges (msg.NewView content tag changes) = length changes ≤ 5
HasFewChanges _ = Unit {0}

-- ---- spellings

abbrev pub code_of : Msg → ℕ
code_of (msg.Req content tags) = 1
code_of (msg.Order content client_tag tag) = 2
code_of (msg.Resp content tag) = 3
code_of (msg.Chain instance m n d reply tags) = 4
code_of (msg.Panic content tag) = 5
code_of (msg.Abort abort) = 6
code_of (msg.Init cert) = 7
code_of (msg.PrePrepare content tag offer) = 8
code_of (msg.Prepare prepare) = 9
code_of (msg.Commit content tag) = 10
code_of (msg.ViewChange change) = 11
code_of (msg.NewView content tag changes) = 12
code_of (msg.Checkpoint content tag) = 13
code_of (msg.LocalCommit content tag) = 14
code_of (msg.Spec spec) = 15
code_of (msg.Cert instance zcert) = 16

abbrev pub spell_body : Msg → List ℕ
spell_body (msg.Req content tags) = spell_content content ++ spell_tags tags.items
spell_body (msg.Order content client_tag tag) = spell_content content ++ (client_tag ++ tag)
spell_body (msg.Resp content tag) = spell_content content ++ tag
spell_body (msg.Chain instance m n d reply tags) =
    u32_bytes instance ++ (spell_request m ++ (u16_bytes n ++ (d ++ (spell_optional spell_reply reply ++ u8_list spell_between tags))))
spell_body (msg.Panic content tag) = spell_content content ++ tag
spell_body (msg.Abort abort) = spell_signed abort
spell_body (msg.Init cert) = spell_aborts cert
spell_body (msg.PrePrepare content tag offer) = (spell_content content ++ tag) ++ spell_offer offer
spell_body (msg.Prepare prepare) = spell_signed prepare
spell_body (msg.Commit content tag) = spell_content content ++ tag
spell_body (msg.ViewChange change) = spell_proof change
spell_body (msg.NewView content tag changes) = spell_content content ++ (tag ++ u8_list spell_proof changes)
spell_body (msg.Checkpoint content tag) = spell_content content ++ tag
spell_body (msg.LocalCommit content tag) = spell_content content ++ tag
spell_body (msg.Spec spec) = spell_signed spec
spell_body (msg.Cert instance zcert) = u32_bytes instance ++ spell_optional spell_zcert (Some zcert)

-- the bytes of a message
abbrev pub spell_message : Msg → List ℕ
spell_message m = u8_bytes (code_of m) ++ spell_body m
