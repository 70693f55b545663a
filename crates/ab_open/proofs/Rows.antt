-- What fits each row of the grammar.
use Rattle.std.specs.Prelude.{◌≡◌, length}
use Rattle.ab_form.specs.Formats.{IsWithin}
use Rattle.ab_form.specs.Lists.{AreCounted, FitsInside}
use Rattle.ab_msg.specs.declared.message.Msg.{Msg}
use Rattle.ab_msg.specs.declared.message.Msg.TheVariants as msg
use Rattle.ab_msg.specs.Fields.{IsInstance, IsRequest, IsReply, AreTags, IsBetween}
use Rattle.ab_msg.specs.Contents.{IsReq, IsOrder, IsResp, IsPanic, IsStopContent, IsPrePrepare, IsPrepare, IsCommit, IsNewView, IsCheckpoint, IsLocalCommit, IsSpec, IsZcert}
use Rattle.ab_msg.specs.Certs.{IsSigned, AreAborts, IsProof}
use Rattle.ab_msg.specs.Messages.{slot_in, IsOffer}

abbrev pub IsReqMessage : Msg → Type 0
IsReqMessage (msg.Req content tags) = IsReq content × AreTags tags.items
IsReqMessage _ = ⊥

abbrev pub IsOrderMessage : Msg → Type 0
IsOrderMessage (msg.Order content client_tag tag) = IsOrder content × ((length client_tag ≡ 32) × (length tag ≡ 32))
IsOrderMessage _ = ⊥

abbrev pub IsRespMessage : Msg → Type 0
IsRespMessage (msg.Resp content tag) = IsResp content × (length tag ≡ 32)
IsRespMessage _ = ⊥

abbrev pub IsChainMessage : Msg → Type 0
IsChainMessage (msg.Chain instance m n d reply tags) =
    IsInstance instance × (IsRequest 0 15 m × (IsWithin 1 65535 n × ((length d ≡ 32) × (FitsInside IsReply reply × AreCounted 0 64 IsBetween tags))))
IsChainMessage _ = ⊥

abbrev pub IsPanicMessage : Msg → Type 0
IsPanicMessage (msg.Panic content tag) = IsPanic content × (length tag ≡ 32)
IsPanicMessage _ = ⊥

abbrev pub IsAbortMessage : Msg → Type 0
IsAbortMessage (msg.Abort abort) = IsSigned IsStopContent abort
IsAbortMessage _ = ⊥

abbrev pub IsInitMessage : Msg → Type 0
IsInitMessage (msg.Init cert) = AreAborts 1 7 cert
IsInitMessage _ = ⊥

abbrev pub IsPrePrepareMessage : Msg → Type 0
IsPrePrepareMessage (msg.PrePrepare content tag offer) = (IsPrePrepare content × (length tag ≡ 32)) × IsOffer (slot_in content) offer
IsPrePrepareMessage _ = ⊥

abbrev pub IsPrepareMessage : Msg → Type 0
IsPrepareMessage (msg.Prepare prepare) = IsSigned IsPrepare prepare
IsPrepareMessage _ = ⊥

abbrev pub IsCommitMessage : Msg → Type 0
IsCommitMessage (msg.Commit content tag) = IsCommit content × (length tag ≡ 32)
IsCommitMessage _ = ⊥

abbrev pub IsChangeMessage : Msg → Type 0
IsChangeMessage (msg.ViewChange change) = IsProof change
IsChangeMessage _ = ⊥

abbrev pub IsNewViewMessage : Msg → Type 0
IsNewViewMessage (msg.NewView content tag changes) = IsNewView content × ((length tag ≡ 32) × AreCounted 1 7 IsProof changes)
IsNewViewMessage _ = ⊥

abbrev pub IsCheckpointMessage : Msg → Type 0
IsCheckpointMessage (msg.Checkpoint content tag) = IsCheckpoint content × (length tag ≡ 32)
IsCheckpointMessage _ = ⊥

abbrev pub IsLocalCommitMessage : Msg → Type 0
IsLocalCommitMessage (msg.LocalCommit content tag) = IsLocalCommit content × (length tag ≡ 32)
IsLocalCommitMessage _ = ⊥

abbrev pub IsSpecMessage : Msg → Type 0
IsSpecMessage (msg.Spec spec) = IsSigned IsSpec spec
IsSpecMessage _ = ⊥

abbrev pub IsCertMessage : Msg → Type 0
IsCertMessage (msg.Cert instance zcert) = IsInstance instance × IsZcert zcert
IsCertMessage _ = ⊥
