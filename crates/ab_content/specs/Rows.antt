-- Readers of contents, one for each row of the grammar.
use Rattle.std.specs.Prelude.{ℕ, ◌==◌, true, if◌then◌else◌, List, Option}
use Rattle.std.specs.Int.{w8, w16, w32}
use Rattle.ab_num.specs.declared.party.Party.{Party}
use Rattle.ab_num.specs.declared.party.Party.TheVariants.{Replica, Client}
use Rattle.ab_hist.specs.declared.request.Request.{Request}
use Rattle.ab_hist.specs.Trimmed.{Trimmed}
use Rattle.ab_form.specs.declared.bad.Bad.TheVariants.{BadCode, BadField}
use Rattle.ab_form.specs.Readers.{◌>>=◌, Reader, number_at, bytes_at, ranged_at, text_at, marked, made, after, both, either}
use Rattle.ab_form.specs.Lists.{counted, optional_at}
use Rattle.ab_msg.specs.declared.zcert.Zcert.{Zcert}
use Rattle.ab_content.specs.Parts.{replica_at, client_at, instance_at, stamp_at, request_at, any_request_at, signer_at}
use Rattle.ab_content.specs.Histories.{history_at}
use Rattle.ab_content.specs.TrimmedLists.{trimmed_at}
use Rattle.ab_msg.specs.declared.content.Content.{Content}
use Rattle.ab_msg.specs.declared.content.Content.TheVariants.{Req, Order, Resp, ChainTag, Panic, Abort, PrePrepare, Prepare, Commit, ViewChange, NewView, Checkpoint, Spec, LocalCommit, AbortZ, TrimmedAbort}

-- ---- requests

-- a client's request; its maker is the client of the request
abbrev pub req_from : ℕ × Request → Content
req_from t = Req (Client t.1.client) t.0 t.1

unfoldable pub req_at : Reader Content
req_at bytes =
    made req_from (marked 1 BadCode (after client_at (λ client. both instance_at (request_at client client)))) bytes

-- ---- places of requests

abbrev pub order_from : ℕ × (ℕ × (ℕ × Request)) → Content
order_from t = Order (Replica t.0) t.1.0 t.1.1.0 t.1.1.1

unfoldable pub order_at : Reader Content
order_at bytes =
    made order_from (marked 2 BadCode (both replica_at (both instance_at (both (ranged_at w16 1 65535 BadField) any_request_at)))) bytes

-- ---- answers

abbrev pub resp_from : ℕ × (ℕ × (ℕ × (ℕ × (ℕ × (List ℕ × List ℕ))))) → Content
resp_from t = Resp (Replica t.0) t.1.0 t.1.1.0 t.1.1.1.0 t.1.1.1.1.0 t.1.1.1.1.1.0 (record { items = t.1.1.1.1.1.1 })

unfoldable pub resp_at : Reader Content
resp_at bytes =
    made resp_from (marked 3 BadCode (both replica_at (both instance_at (both (ranged_at w16 0 15 BadField)
    (both stamp_at (both (ranged_at w16 1 65535 BadField) (both (bytes_at 32) (text_at w8 0 72)))))))) bytes

-- ---- tags along a chain, which stand in no message but are made and checked

abbrev pub chain_tag_from : ℕ × (ℕ × (ℕ × (ℕ × (ℕ × List ℕ)))) → Content
chain_tag_from t = ChainTag (Replica t.0) t.1.0 t.1.1.0 t.1.1.1.0 t.1.1.1.1.0 t.1.1.1.1.1

unfoldable pub chain_tag_at : Reader Content
chain_tag_at bytes =
    made chain_tag_from (marked 4 BadCode (both replica_at (both instance_at (both (ranged_at w16 0 15 BadField)
    (both stamp_at (both (ranged_at w16 1 65535 BadField) (bytes_at 32))))))) bytes

-- ---- panics

abbrev pub panic_from : ℕ × ℕ → Content
panic_from t = Panic (Client t.0) t.1

unfoldable pub panic_at : Reader Content
panic_at bytes = made panic_from (marked 5 BadCode (both client_at instance_at)) bytes

-- ---- aborts

-- of a whole log, or of one of which at least an entry is trimmed
abbrev pub abort_of : Party → ℕ → Trimmed → Content
abort_of maker instance t =
    if t.start == 0 then Abort maker instance t.rest
    else TrimmedAbort maker instance t.start t.digest t.rest

abbrev pub abort_from : ℕ × (ℕ × Trimmed) → Content
abort_from t = abort_of (Replica t.0) t.1.0 t.1.1

unfoldable pub abort_at : Reader Content
abort_at bytes = made abort_from (marked 6 BadCode (both replica_at (both instance_at (trimmed_at true)))) bytes

-- ---- what is stated of a slot

abbrev pub SlotParts : Type 0
SlotParts = ℕ × (ℕ × (ℕ × (ℕ × List ℕ)))

unfoldable pub slot_parts_at : Reader SlotParts
slot_parts_at bytes =
    both replica_at (both instance_at (both (number_at w32) (both (ranged_at w8 0 16 BadField) (bytes_at 32)))) bytes

abbrev pub pre_prepare_from : SlotParts → Content
pre_prepare_from t = PrePrepare (Replica t.0) t.1.0 t.1.1.0 t.1.1.1.0 t.1.1.1.1

unfoldable pub pre_prepare_at : Reader Content
pre_prepare_at bytes = made pre_prepare_from (marked 7 BadCode slot_parts_at) bytes

abbrev pub prepare_from : SlotParts → Content
prepare_from t = Prepare (Replica t.0) t.1.0 t.1.1.0 t.1.1.1.0 t.1.1.1.1

unfoldable pub prepare_at : Reader Content
prepare_at bytes = made prepare_from (marked 8 BadCode slot_parts_at) bytes

abbrev pub commit_from : SlotParts → Content
commit_from t = Commit (Replica t.0) t.1.0 t.1.1.0 t.1.1.1.0 t.1.1.1.1

unfoldable pub commit_at : Reader Content
commit_at bytes = made commit_from (marked 9 BadCode slot_parts_at) bytes

-- ---- view changes

-- the view in which a slot was prepared, and the digest of its value
unfoldable pub entry_at : Reader (ℕ × List ℕ)
entry_at bytes = both (number_at w32) (bytes_at 32) bytes

abbrev pub change_from : ℕ × (ℕ × (ℕ × List (ℕ × List ℕ))) → Content
change_from t = ViewChange (Replica t.0) t.1.0 t.1.1.0 t.1.1.1

unfoldable pub change_at : Reader Content
change_at bytes =
    made change_from (marked 10 BadCode (both replica_at (both instance_at (both (number_at w32) (counted w8 0 17 entry_at))))) bytes

abbrev pub new_view_from : ℕ × (ℕ × ℕ) → Content
new_view_from t = NewView (Replica t.0) t.1.0 t.1.1

unfoldable pub new_view_at : Reader Content
new_view_at bytes = made new_view_from (marked 11 BadCode (both replica_at (both instance_at (number_at w32)))) bytes

-- ---- what logs begin with

abbrev pub checkpoint_from : ℕ × (ℕ × (ℕ × List ℕ)) → Content
checkpoint_from t = Checkpoint (Replica t.0) t.1.0 t.1.1.0 t.1.1.1

unfoldable pub checkpoint_at : Reader Content
checkpoint_at bytes =
    made checkpoint_from (marked 12 BadCode (both replica_at (both instance_at (both (ranged_at w16 1 65535 BadField) (bytes_at 32))))) bytes

-- ---- signed answers, and what is kept of them

abbrev pub AnswerParts : Type 0
AnswerParts = ℕ × (ℕ × (ℕ × (ℕ × (ℕ × (List ℕ × List ℕ)))))

abbrev pub spec_from : AnswerParts → Content
spec_from t = Spec (Replica t.0) t.1.0 t.1.1.0 t.1.1.1.0 t.1.1.1.1.0 t.1.1.1.1.1.0 (record { items = t.1.1.1.1.1.1 })

unfoldable pub spec_at : Reader Content
spec_at bytes =
    made spec_from (marked 13 BadCode (both replica_at (both instance_at (both (ranged_at w16 0 15 BadField)
    (both stamp_at (both (ranged_at w16 1 65535 BadField) (both (bytes_at 32) (text_at w8 0 72)))))))) bytes

abbrev pub local_commit_from : ℕ × (ℕ × (ℕ × (ℕ × (ℕ × List ℕ)))) → Content
local_commit_from t = LocalCommit (Replica t.0) t.1.0 t.1.1.0 t.1.1.1.0 t.1.1.1.1.0 t.1.1.1.1.1

unfoldable pub local_commit_at : Reader Content
local_commit_at bytes =
    made local_commit_from (marked 14 BadCode (both replica_at (both instance_at (both (ranged_at w16 0 15 BadField)
    (both stamp_at (both (ranged_at w16 1 65535 BadField) (bytes_at 32))))))) bytes

abbrev pub ZcertParts : Type 0
ZcertParts = ℕ × (ℕ × (ℕ × (List ℕ × (List ℕ × List (ℕ × List ℕ)))))

abbrev pub zcert_from : ZcertParts → Zcert
zcert_from t = record { client = t.0; stamp = t.1.0; n = t.1.1.0; d = t.1.1.1.0; reply = record { items = t.1.1.1.1.0 }; sigs = t.1.1.1.1.1 }

unfoldable pub zcert_at : Reader Zcert
zcert_at bytes =
    made zcert_from (both (ranged_at w16 0 15 BadField) (both stamp_at (both (ranged_at w16 1 65535 BadField)
    (both (bytes_at 32) (both (text_at w8 0 72) (counted w8 1 7 signer_at)))))) bytes

abbrev pub abort_z_from : ℕ × (ℕ × (List Request × Option Zcert)) → Content
abort_z_from t = AbortZ (Replica t.0) t.1.0 t.1.1.0 t.1.1.1

unfoldable pub abort_z_at : Reader Content
abort_z_at bytes = made abort_z_from (marked 15 BadCode (both replica_at (both instance_at (both history_at (optional_at zcert_at))))) bytes

-- ---- what a stopped replica states, of either kind

-- the first byte tells which
unfoldable pub stop_at : Reader Content
stop_at bytes = number_at w8 bytes >>= λ code. either (code.0 == 15) abort_z_at abort_at bytes
