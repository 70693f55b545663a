-- Readers of messages, one for each row of the grammar.
use Rattle.std.specs.Prelude.{ℕ, ◌==◌, List, Result, Option}
use Rattle.std.specs.Int.{w8, w16}
use Rattle.arrayvec.specs.ArrayVec.{ArrayVec}
use Rattle.ab_hist.specs.declared.request.Request.{Request}
use Rattle.ab_form.specs.declared.bad.Bad.{Bad}
use Rattle.ab_form.specs.declared.bad.Bad.TheVariants.{BadCode, BadField}
use Rattle.ab_form.specs.Readers.{Reader, number_at, bytes_at, ranged_at, text_at, marked, made, after, both, either, never, whole}
use Rattle.ab_form.specs.Lists.{along, counted, optional_at}
use Rattle.ab_content.specs.Parts.{instance_at, any_request_at}
use Rattle.ab_msg.specs.declared.content.Content.{Content}
use Rattle.ab_msg.specs.declared.chain_tags.TagBetween.{TagBetween}
use Rattle.ab_msg.specs.declared.change.Proof.{Proof}
use Rattle.ab_msg.specs.declared.zcert.Zcert.{Zcert}
use Rattle.ab_msg.specs.declared.message.Msg.{Msg}
use Rattle.ab_msg.specs.declared.message.Msg.TheVariants as msg
use Rattle.ab_msg.specs.declared.message.Offer.{Offer}
use Rattle.ab_msg.specs.declared.message.Offer.TheVariants as offer
use Rattle.ab_content.specs.Rows.{req_at, order_at, resp_at, panic_at, pre_prepare_at, commit_at, new_view_at, checkpoint_at, local_commit_at, zcert_at}
use Rattle.ab_wire.specs.Tags.{tags_at, between_at}
use Rattle.ab_wire.specs.Signed.{signed_abort_at, signed_prepare_at, signed_spec_at, aborts_at}
use Rattle.ab_wire.specs.Changes.{proof_at}
use Rattle.ab_msg.specs.Messages.{slot_in}

-- ---- REQ

abbrev pub req_message_from : Content × List (ℕ × List ℕ) → Msg
req_message_from t = msg.Req t.0 (record { items = t.1 })

unfoldable pub req_message_at : Reader Msg
req_message_at bytes = made req_message_from (both req_at tags_at) bytes

-- ---- ORDER

abbrev pub order_message_from : Content × (List ℕ × List ℕ) → Msg
order_message_from t = msg.Order t.0 t.1.0 t.1.1

unfoldable pub order_message_at : Reader Msg
order_message_at bytes = made order_message_from (both order_at (both (bytes_at 32) (bytes_at 32))) bytes

-- ---- RESP

abbrev pub resp_message_from : Content × List ℕ → Msg
resp_message_from t = msg.Resp t.0 t.1

unfoldable pub resp_message_at : Reader Msg
resp_message_at bytes = made resp_message_from (both resp_at (bytes_at 32)) bytes

-- ---- CHAIN

abbrev pub reply_from : List ℕ → ArrayVec ℕ
reply_from bytes = record { items = bytes }

unfoldable pub reply_at : Reader (ArrayVec ℕ)
reply_at bytes = made reply_from (text_at w8 0 72) bytes

abbrev pub ChainParts : Type 0
ChainParts = ℕ × (Request × (ℕ × (List ℕ × (Option (ArrayVec ℕ) × List TagBetween))))

abbrev pub chain_message_from : ChainParts → Msg
chain_message_from t = msg.Chain t.0 t.1.0 t.1.1.0 t.1.1.1.0 t.1.1.1.1.0 t.1.1.1.1.1

unfoldable pub chain_message_at : Reader Msg
chain_message_at bytes =
    made chain_message_from (both instance_at (both any_request_at (both (ranged_at w16 1 65535 BadField) (both (bytes_at 32)
    (both (optional_at reply_at) (counted w8 0 64 between_at)))))) bytes

-- ---- PANIC

abbrev pub panic_message_from : Content × List ℕ → Msg
panic_message_from t = msg.Panic t.0 t.1

unfoldable pub panic_message_at : Reader Msg
panic_message_at bytes = made panic_message_from (both panic_at (bytes_at 32)) bytes

-- ---- ABORT

unfoldable pub abort_message_at : Reader Msg
abort_message_at bytes = made msg.Abort signed_abort_at bytes

-- ---- INIT

unfoldable pub init_message_at : Reader Msg
init_message_at bytes = made msg.Init (aborts_at 1 7) bytes

-- ---- PRE-PREPARE

abbrev pub offered_from : Request × List ℕ → Offer
offered_from t = offer.Request t.0 t.1

-- what is offered for a slot: a certificate for slot 0, and a request with its client's tag for another
unfoldable pub offer_at : ℕ → Reader Offer
offer_at slot bytes = either (slot == 0) (made offer.Base (aborts_at 0 7)) (made offered_from (both any_request_at (bytes_at 32))) bytes

abbrev pub pre_prepare_message_from : (Content × List ℕ) × Offer → Msg
pre_prepare_message_from t = msg.PrePrepare t.0.0 t.0.1 t.1

unfoldable pub pre_prepare_message_at : Reader Msg
pre_prepare_message_at bytes = made pre_prepare_message_from (along (both pre_prepare_at (bytes_at 32)) (λ t. offer_at (slot_in t.0))) bytes

-- ---- PREPARE

unfoldable pub prepare_message_at : Reader Msg
prepare_message_at bytes = made msg.Prepare signed_prepare_at bytes

-- ---- COMMIT

abbrev pub commit_message_from : Content × List ℕ → Msg
commit_message_from t = msg.Commit t.0 t.1

unfoldable pub commit_message_at : Reader Msg
commit_message_at bytes = made commit_message_from (both commit_at (bytes_at 32)) bytes

-- ---- VIEW-CHANGE

unfoldable pub change_message_at : Reader Msg
change_message_at bytes = made msg.ViewChange proof_at bytes

-- ---- NEW-VIEW

abbrev pub new_view_message_from : Content × (List ℕ × List Proof) → Msg
new_view_message_from t = msg.NewView t.0 t.1.0 t.1.1

unfoldable pub new_view_message_at : Reader Msg
new_view_message_at bytes = made new_view_message_from (both new_view_at (both (bytes_at 32) (counted w8 1 7 proof_at))) bytes

-- ---- CHECKPOINT

abbrev pub checkpoint_message_from : Content × List ℕ → Msg
checkpoint_message_from t = msg.Checkpoint t.0 t.1

unfoldable pub checkpoint_message_at : Reader Msg
checkpoint_message_at bytes = made checkpoint_message_from (both checkpoint_at (bytes_at 32)) bytes

-- ---- LOCAL-COMMIT

abbrev pub local_commit_message_from : Content × List ℕ → Msg
local_commit_message_from t = msg.LocalCommit t.0 t.1

unfoldable pub local_commit_message_at : Reader Msg
local_commit_message_at bytes = made local_commit_message_from (both local_commit_at (bytes_at 32)) bytes

-- ---- SPEC

unfoldable pub spec_message_at : Reader Msg
spec_message_at bytes = made msg.Spec signed_spec_at bytes

-- ---- CERT

abbrev pub cert_message_from : ℕ × Zcert → Msg
cert_message_from t = msg.Cert t.0 t.1

-- a certificate of answers behind the byte 1, since it is never left out
unfoldable pub cert_message_at : Reader Msg
cert_message_at bytes = made cert_message_from (both instance_at (marked 1 BadField zcert_at)) bytes

-- ---- all

-- the body behind a code
abbrev pub body_at : ℕ → Reader Msg
body_at code =
    either (code == 1) req_message_at (either (code == 2) order_message_at (either (code == 3) resp_message_at
    (either (code == 4) chain_message_at (either (code == 5) panic_message_at (either (code == 6) abort_message_at
    (either (code == 7) init_message_at (either (code == 8) pre_prepare_message_at (either (code == 9) prepare_message_at
    (either (code == 10) commit_message_at (either (code == 11) change_message_at (either (code == 12) new_view_message_at
    (either (code == 13) checkpoint_message_at (either (code == 14) local_commit_message_at (either (code == 15) spec_message_at
    (either (code == 16) cert_message_at (never BadCode))))))))))))))))

unfoldable pub message_at : Reader Msg
message_at bytes = after (number_at w8) body_at bytes

-- the message that all of the bytes spell, or their first defect
unfoldable pub message_of : List ℕ → Result Msg Bad
message_of bytes = whole message_at bytes
