-- Contents: which are of the grammar, and how they are spelled.
use Rattle.std.specs.Prelude.{◌≡◌, ℕ, ◌≤◌, List, ◌++◌, length}
use Rattle.ab_num.specs.declared.party.Party.{Party}
use Rattle.ab_num.specs.declared.party.Party.TheVariants.{Client}
use Rattle.ab_form.specs.Formats.{IsWithin, u8_bytes, u16_bytes, u32_bytes, u64_bytes}
use Rattle.ab_form.specs.Lists.{u8_list, AreCounted, spell_optional, FitsInside}
use Rattle.ab_msg.specs.declared.zcert.Zcert.{Zcert}
use Rattle.ab_msg.specs.declared.content.Content.{Content}
use Rattle.ab_msg.specs.declared.content.Content.TheVariants.{Req, Order, Resp, ChainTag, Panic, Abort, PrePrepare, Prepare, Commit, ViewChange, NewView, Checkpoint, Spec, LocalCommit, AbortZ, TrimmedAbort}
use Rattle.ab_msg.specs.Fields.{IsReplica, IsClient, spell_party, IsInstance, IsView, IsStamp, IsRequest, spell_request, IsWritten, spell_history, IsSpellable, spell_trimmed, IsReply, spell_reply, IsSigner, spell_signer}

-- ---- what fits

-- a client's request; its maker is the client of the request
abbrev pub IsReq : Content → Type 0
IsReq (Req maker instance request) = (maker ≡ Client request.client) × (IsInstance instance × IsRequest 0 15 request)
IsReq _ = ⊥

abbrev pub IsOrder : Content → Type 0
IsOrder (Order maker instance n request) = IsReplica maker × (IsInstance instance × (IsWithin 1 65535 n × IsRequest 0 15 request))
IsOrder _ = ⊥

abbrev pub IsResp : Content → Type 0
IsResp (Resp maker instance client stamp n d reply) =
    IsReplica maker × (IsInstance instance × (IsWithin 0 15 client × (IsStamp stamp × (IsWithin 1 65535 n × ((length d ≡ 32) × IsReply reply)))))
IsResp _ = ⊥

abbrev pub IsChainTag : Content → Type 0
IsChainTag (ChainTag maker instance client stamp n d) =
    IsReplica maker × (IsInstance instance × (IsWithin 0 15 client × (IsStamp stamp × (IsWithin 1 65535 n × (length d ≡ 32)))))
IsChainTag _ = ⊥

abbrev pub IsPanic : Content → Type 0
IsPanic (Panic maker instance) = IsClient maker × IsInstance instance
IsPanic _ = ⊥

abbrev pub IsAbort : Content → Type 0
IsAbort (Abort maker instance history) = IsReplica maker × (IsInstance instance × IsWritten history)
IsAbort _ = ⊥

-- as an answer
abbrev pub IsSpec : Content → Type 0
IsSpec (Spec maker instance client stamp n d reply) =
    IsReplica maker × (IsInstance instance × (IsWithin 0 15 client × (IsStamp stamp × (IsWithin 1 65535 n × ((length d ≡ 32) × IsReply reply)))))
IsSpec _ = ⊥

abbrev pub IsLocalCommit : Content → Type 0
IsLocalCommit (LocalCommit maker instance client stamp n d) =
    IsReplica maker × (IsInstance instance × (IsWithin 0 15 client × (IsStamp stamp × (IsWithin 1 65535 n × (length d ≡ 32)))))
IsLocalCommit _ = ⊥

-- a certificate of answers has from 1 to 7 signatures
abbrev pub IsZcert : Zcert → Type 0
IsZcert z = IsWithin 0 15 z.client × (IsStamp z.stamp × (IsWithin 1 65535 z.n × ((length z.d ≡ 32) × (IsReply z.reply × AreCounted 1 7 IsSigner z.sigs))))

abbrev pub IsAbortZ : Content → Type 0
IsAbortZ (AbortZ maker instance history zcert) = IsReplica maker × (IsInstance instance × (IsWritten history × FitsInside IsZcert zcert))
IsAbortZ _ = ⊥

-- at least one entry is trimmed
abbrev pub IsTrimmedAbort : Content → Type 0
IsTrimmedAbort (TrimmedAbort maker instance start digest rest) =
    IsReplica maker × (IsInstance instance × ((1 ≤ start) × IsSpellable (record { start = start; digest = digest; rest = rest })))
IsTrimmedAbort _ = ⊥

-- an ABORT without a certificate of answers, of a whole log or of a trimmed one
abbrev pub IsEitherAbort : Content → Type 0
IsEitherAbort (Abort maker instance history) = IsAbort (Abort maker instance history)
IsEitherAbort (TrimmedAbort maker instance start digest rest) = IsTrimmedAbort (TrimmedAbort maker instance start digest rest)
IsEitherAbort _ = ⊥

-- what a stopped replica states, with a certificate of answers or without, of a whole log or of a trimmed one
abbrev pub IsStopContent : Content → Type 0
IsStopContent (Abort maker instance history) = IsAbort (Abort maker instance history)
IsStopContent (AbortZ maker instance history zcert) = IsAbortZ (AbortZ maker instance history zcert)
IsStopContent (TrimmedAbort maker instance start digest rest) = IsTrimmedAbort (TrimmedAbort maker instance start digest rest)
IsStopContent _ = ⊥

abbrev pub IsCheckpoint : Content → Type 0
IsCheckpoint (Checkpoint maker instance n d) = IsReplica maker × (IsInstance instance × (IsWithin 1 65535 n × (length d ≡ 32)))
IsCheckpoint _ = ⊥

-- what a replica may state of a slot in a view
abbrev pub IsOfSlot : Party → ℕ → ℕ → ℕ → List ℕ → Type 0
IsOfSlot maker instance view slot x = IsReplica maker × (IsInstance instance × (IsView view × (IsWithin 0 16 slot × (length x ≡ 32))))

abbrev pub IsPrePrepare : Content → Type 0
IsPrePrepare (PrePrepare maker instance view slot x) = IsOfSlot maker instance view slot x
IsPrePrepare _ = ⊥

abbrev pub IsPrepare : Content → Type 0
IsPrepare (Prepare maker instance view slot x) = IsOfSlot maker instance view slot x
IsPrepare _ = ⊥

abbrev pub IsCommit : Content → Type 0
IsCommit (Commit maker instance view slot x) = IsOfSlot maker instance view slot x
IsCommit _ = ⊥

-- the view in which a slot was prepared, and the digest of its value
abbrev pub IsEntry : ℕ × List ℕ → Type 0
IsEntry e = IsView e.0 × (length e.1 ≡ 32)

abbrev pub IsChange : Content → Type 0
IsChange (ViewChange maker instance view entries) = IsReplica maker × (IsInstance instance × (IsView view × AreCounted 0 17 IsEntry entries))
IsChange _ = ⊥

abbrev pub IsNewView : Content → Type 0
IsNewView (NewView maker instance view) = IsReplica maker × (IsInstance instance × IsView view)
IsNewView _ = ⊥

-- a content of the grammar
abbrev pub IsContent : Content → Type 0
IsContent (Req maker instance request) = IsReq (Req maker instance request)
IsContent (Order maker instance n request) = IsOrder (Order maker instance n request)
IsContent (Resp maker instance client stamp n d reply) = IsResp (Resp maker instance client stamp n d reply)
IsContent (ChainTag maker instance client stamp n d) = IsChainTag (ChainTag maker instance client stamp n d)
IsContent (Panic maker instance) = IsPanic (Panic maker instance)
IsContent (Abort maker instance history) = IsAbort (Abort maker instance history)
IsContent (PrePrepare maker instance view slot x) = IsOfSlot maker instance view slot x
IsContent (Prepare maker instance view slot x) = IsOfSlot maker instance view slot x
IsContent (Commit maker instance view slot x) = IsOfSlot maker instance view slot x
IsContent (ViewChange maker instance view entries) = IsChange (ViewChange maker instance view entries)
IsContent (NewView maker instance view) = IsNewView (NewView maker instance view)
IsContent (Checkpoint maker instance n d) = IsCheckpoint (Checkpoint maker instance n d)
IsContent (Spec maker instance client stamp n d reply) = IsSpec (Spec maker instance client stamp n d reply)
IsContent (LocalCommit maker instance client stamp n d) = IsLocalCommit (LocalCommit maker instance client stamp n d)
IsContent (AbortZ maker instance history zcert) = IsAbortZ (AbortZ maker instance history zcert)
IsContent (TrimmedAbort maker instance start digest rest) = IsTrimmedAbort (TrimmedAbort maker instance start digest rest)

-- ---- spellings

-- the code, the maker and the instance of a content, and what follows
abbrev pub spell_head : ℕ → Party → ℕ → List ℕ → List ℕ
spell_head code maker instance rest = u8_bytes code ++ (spell_party maker ++ (u32_bytes instance ++ rest))

abbrev pub spell_slot : ℕ → ℕ → List ℕ → List ℕ
spell_slot view slot x = u32_bytes view ++ (u8_bytes slot ++ x)

abbrev pub spell_entry : ℕ × List ℕ → List ℕ
spell_entry e = u32_bytes e.0 ++ e.1

abbrev pub spell_zcert : Zcert → List ℕ
spell_zcert z = u16_bytes z.client ++ (u64_bytes z.stamp ++ (u16_bytes z.n ++ (z.d ++ (spell_reply z.reply ++ u8_list spell_signer z.sigs))))

-- the bytes of a content, which its maker tags or signs
abbrev pub spell_content : Content → List ℕ
spell_content (Req maker instance request) = spell_head 1 maker instance (spell_request request)
spell_content (Order maker instance n request) = spell_head 2 maker instance (u16_bytes n ++ spell_request request)
spell_content (Resp maker instance client stamp n d reply) =
    spell_head 3 maker instance (u16_bytes client ++ (u64_bytes stamp ++ (u16_bytes n ++ (d ++ spell_reply reply))))
spell_content (ChainTag maker instance client stamp n d) = spell_head 4 maker instance (u16_bytes client ++ (u64_bytes stamp ++ (u16_bytes n ++ d)))
spell_content (Panic maker instance) = u8_bytes 5 ++ (spell_party maker ++ u32_bytes instance)
spell_content (Abort maker instance history) = spell_head 6 maker instance (spell_history history)
spell_content (PrePrepare maker instance view slot x) = spell_head 7 maker instance (spell_slot view slot x)
spell_content (Prepare maker instance view slot x) = spell_head 8 maker instance (spell_slot view slot x)
spell_content (Commit maker instance view slot x) = spell_head 9 maker instance (spell_slot view slot x)
spell_content (ViewChange maker instance view entries) = spell_head 10 maker instance (u32_bytes view ++ u8_list spell_entry entries)
spell_content (NewView maker instance view) = spell_head 11 maker instance (u32_bytes view)
spell_content (Checkpoint maker instance n d) = spell_head 12 maker instance (u16_bytes n ++ d)
spell_content (Spec maker instance client stamp n d reply) =
    spell_head 13 maker instance (u16_bytes client ++ (u64_bytes stamp ++ (u16_bytes n ++ (d ++ spell_reply reply))))
spell_content (LocalCommit maker instance client stamp n d) = spell_head 14 maker instance (u16_bytes client ++ (u64_bytes stamp ++ (u16_bytes n ++ d)))
spell_content (AbortZ maker instance history zcert) = spell_head 15 maker instance (spell_history history ++ spell_optional spell_zcert zcert)
spell_content (TrimmedAbort maker instance start digest rest) =
    spell_head 6 maker instance (spell_trimmed (record { start = start; digest = digest; rest = rest }))
