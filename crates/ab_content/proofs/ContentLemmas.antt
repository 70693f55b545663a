-- The laws of contents.
use Rattle.std.proofs.Common.{◌≡◌, ◌≢◌, ℕ, ◌^◌, ◌<◌, ◌≤◌, eqb, Bool, true, false, Option, List, ◌++◌, length, refl, sym, ap, arith, lit<}
use Rattle.std.proofs.lemmas.Bool.{eqb-false, ne_eqb}
use Rattle.std.specs.Int.{w32}
use Rattle.ab_num.specs.declared.party.Party.{Party}
use Rattle.ab_num.specs.declared.party.Party.TheVariants.{Replica, Client}
use Rattle.ab_hist.specs.declared.request.Request.{Request}
use Rattle.ab_hist.specs.Trimmed.{Trimmed, untrimmed}
use Rattle.ab_form.specs.declared.bad.Bad.TheVariants.{BadCode, BadField}
use Rattle.ab_form.specs.Readers.{Reader, number_at, marked, after, both}
use Rattle.ab_content.specs.Parts.{replica_at}
use Rattle.ab_form.specs.Formats.{IsFormat, IsWithin, Stays, u8_bytes, u16_bytes, u32_bytes}
use Rattle.ab_form.proofs.FormatLemmas.{same-format, both-format, both-stays, after-format, inject-format}
use Rattle.ab_form.proofs.PartLemmas.{u8-format, u16-format, number-format, wide32, marked-format, bytes-format, u8_text-format}
use Rattle.ab_form.specs.Lists.{AreCounted, FitsInside}
use Rattle.ab_msg.specs.declared.zcert.Zcert.{Zcert}
use Rattle.ab_form.proofs.ListLemmas.{u8_counted-format, optional-format}
use Rattle.ab_content.specs.Parts.{client_at, instance_at, request_at, signer_at}
use Rattle.ab_msg.specs.Fields.{IsStamp, spell_request, IsRequest, spell_signer, IsSigner}
use Rattle.ab_msg.specs.Fields.{IsWritten, IsSpellable, spell_trimmed}
use Rattle.ab_content.proofs.PartLemmas.{replica-format, client-format, instance-format, stamp-format, request-format, any_request-format, request-stays, history-format, signer-format}
use Rattle.ab_content.proofs.TrimmedLemmas.{trimmed-format, whole_fits}
use Rattle.ab_msg.specs.declared.content.Content.{Content}
use Rattle.ab_msg.specs.declared.content.Content.TheVariants.{Req, Order, Resp, ChainTag, Panic, Abort, PrePrepare, Prepare, Commit, ViewChange, NewView, Checkpoint, Spec, LocalCommit, AbortZ, TrimmedAbort}
use Rattle.ab_msg.specs.Fields.{IsInstance, IsView}
use Rattle.ab_content.specs.Rows.{req_from, req_at, order_from, order_at, resp_from, resp_at, chain_tag_from, chain_tag_at, panic_from, panic_at, abort_of, abort_from, abort_at, SlotParts, slot_parts_at, pre_prepare_from, pre_prepare_at, prepare_from, prepare_at, commit_from, commit_at, entry_at, change_from, change_at, new_view_from, new_view_at, checkpoint_from, checkpoint_at, spec_from, spec_at, local_commit_from, local_commit_at, ZcertParts, zcert_from, zcert_at, abort_z_from, abort_z_at}
use Rattle.ab_msg.specs.Contents.{IsReq, IsOrder, IsResp, IsChainTag, IsPanic, IsEitherAbort, spell_head, spell_slot, IsPrePrepare, IsPrepare, IsCommit, spell_entry, IsEntry, IsChange, IsNewView, IsCheckpoint, IsSpec, IsLocalCommit, IsZcert, IsAbortZ, spell_zcert, spell_content}

-- ---- requests

abbrev of_client : ℕ → Reader (ℕ × Request)
of_client client = both instance_at (request_at client client)

abbrev spell_of_client : ℕ × Request → List ℕ
spell_of_client t = u32_bytes t.0 ++ spell_request t.1

abbrev IsOfClient : ℕ × Request → Type 0
IsOfClient t = IsInstance t.0 × IsRequest 0 15 t.1

of_client-format : (client : ℕ) → client < 2 ^ 16 → IsFormat (of_client client) spell_of_client (λ t. (t.1.client ≡ client) × (IsInstance t.0 × IsRequest client client t.1))
of_client-format client small = same-format _ spell_of_client (λ t. IsInstance t.0 × IsRequest client client t.1) _
    (λ t h. (omega (arith, h.1.0.0, h.1.0.1), h)) (λ t h. h.1)
    (both-format instance_at _ _ (request_at client client) _ _ instance-format (request-format client client small))

of_client-fits : (client : ℕ) → IsWithin 0 15 client → IsFormat (of_client client) spell_of_client (λ t. (t.1.client ≡ client) × IsOfClient t)
of_client-fits client fits = same-format _ spell_of_client (λ t. (t.1.client ≡ client) × (IsInstance t.0 × IsRequest client client t.1)) _
    (λ t h. (h.0, (h.1.0, ((omega arith, omega (arith, h.0)), h.1.1.1))))
    (λ t h. (h.0, (h.1.0, ((omega (arith, h.0), omega (arith, h.0)), h.1.1.1))))
    (of_client-format client (omega arith))

of_client-stays : (client : ℕ) → Stays (of_client client)
of_client-stays client = both-stays instance_at (request_at client client) instance-format.stays (request-stays client client)

req_parts-format : IsFormat (after client_at of_client) (λ t. (u8_bytes 1 ++ u16_bytes t.1.client) ++ spell_of_client t) IsOfClient
req_parts-format = same-format _ _ (λ t. IsWithin 0 15 t.1.client × IsOfClient t) IsOfClient (λ t h. h.1) (λ t h. (h.1.0, h))
    (after-format (λ t. t.1.client) client_at (λ c. u8_bytes 1 ++ u16_bytes c) (IsWithin 0 15) of_client spell_of_client IsOfClient client-format of_client-fits of_client-stays)

req-back : (y : Content) → IsReq y → (t : ℕ × Request) × (y ≡ req_from t) × IsOfClient t
req-back (Req maker instance request) g = ((instance, request), ap (λ (m : Party). Req m instance request) g.0, g.1)
req-back y g = absurd g

pub req-format : IsFormat req_at spell_content IsReq
unfolding req_at
req-format = inject-format req_from _ _ IsOfClient spell_content IsReq (λ t. refl) (λ t h. (refl, h)) req-back
    (marked-format 1 BadCode (after client_at of_client) _ IsOfClient (lit< tt) req_parts-format)

-- ---- a maker that is a replica, an instance, and what follows

abbrev Headed : Type 0 → Type 0
Headed A = ℕ × (ℕ × A)

abbrev IsHeaded : {A : Type 0} → (A → Type 0) → Headed A → Type 0
IsHeaded F t = IsWithin 0 6 t.0 × (IsInstance t.1.0 × F t.1.1)

abbrev spell_headed : {A : Type 0} → (A → List ℕ) → Headed A → List ℕ
spell_headed s t = (u8_bytes 0 ++ u16_bytes t.0) ++ (u32_bytes t.1.0 ++ s t.1.1)

headed-format : {A : Type 0} (code : ℕ) (r : Reader A) (s : A → List ℕ) (F : A → Type 0) → code < 2 ^ 8 → IsFormat r s F
    → IsFormat (marked code BadCode (both replica_at (both instance_at r))) (λ t. u8_bytes code ++ spell_headed s t) (IsHeaded F)
headed-format code r s F small one =
    marked-format code BadCode _ _ (IsHeaded F) small (both-format _ _ _ _ _ _ replica-format (both-format _ _ _ _ _ _ instance-format one))

view-format : IsFormat (number_at w32) u32_bytes IsView
unfolding u32_bytes
view-format = number-format w32 (2 ^ 32) wide32

-- ---- places of requests

order-back : (y : Content) → IsOrder y → (t : Headed (ℕ × Request)) × (y ≡ order_from t) × IsHeaded (λ p. IsWithin 1 65535 p.0 × IsRequest 0 15 p.1) t
order-back (Order (Replica r) instance n m) g = ((r, (instance, (n, m))), refl, g)
order-back (Order (Client c) instance n m) g = absurd g.0
order-back y g = absurd g

pub order-format : IsFormat order_at spell_content IsOrder
unfolding order_at
order-format = inject-format order_from _ _ _ spell_content IsOrder (λ t. refl) (λ t h. h) order-back
    (headed-format 2 _ _ (λ p. IsWithin 1 65535 p.0 × IsRequest 0 15 p.1) (lit< tt) (both-format _ _ _ _ _ _ (u16-format 1 65535 BadField (lit< tt)) any_request-format))

-- ---- answers

abbrev RespParts : Type 0
RespParts = ℕ × (ℕ × (ℕ × (List ℕ × List ℕ)))

abbrev AreRespParts : RespParts → Type 0
AreRespParts t = IsWithin 0 15 t.0 × (IsStamp t.1.0 × (IsWithin 1 65535 t.1.1.0 × ((length t.1.1.1.0 ≡ 32) × IsWithin 0 72 (length t.1.1.1.1))))

resp-back : (y : Content) → IsResp y → (t : Headed RespParts) × (y ≡ resp_from t) × IsHeaded AreRespParts t
resp-back (Resp (Replica r) instance client stamp n d reply) g = ((r, (instance, (client, (stamp, (n, (d, reply.items)))))), refl, g)
resp-back (Resp (Client c) instance client stamp n d reply) g = absurd g.0
resp-back y g = absurd g

pub resp-format : IsFormat resp_at spell_content IsResp
unfolding resp_at
resp-format = inject-format resp_from _ _ _ spell_content IsResp (λ t. refl) (λ t h. h) resp-back
    (headed-format 3 _ _ AreRespParts (lit< tt)
    (both-format _ _ _ _ _ _ (u16-format 0 15 BadField (lit< tt))
    (both-format _ _ _ _ _ _ stamp-format
    (both-format _ _ _ _ _ _ (u16-format 1 65535 BadField (lit< tt))
    (both-format _ _ _ _ _ _ (bytes-format 32) (u8_text-format 0 72 (lit< tt)))))))

-- ---- tags along a chain

abbrev TagParts : Type 0
TagParts = ℕ × (ℕ × (ℕ × List ℕ))

abbrev AreTagParts : TagParts → Type 0
AreTagParts t = IsWithin 0 15 t.0 × (IsStamp t.1.0 × (IsWithin 1 65535 t.1.1.0 × (length t.1.1.1 ≡ 32)))

chain_tag-back : (y : Content) → IsChainTag y → (t : Headed TagParts) × (y ≡ chain_tag_from t) × IsHeaded AreTagParts t
chain_tag-back (ChainTag (Replica r) instance client stamp n d) g = ((r, (instance, (client, (stamp, (n, d))))), refl, g)
chain_tag-back (ChainTag (Client c) instance client stamp n d) g = absurd g.0
chain_tag-back y g = absurd g

pub chain_tag-format : IsFormat chain_tag_at spell_content IsChainTag
unfolding chain_tag_at
chain_tag-format = inject-format chain_tag_from _ _ _ spell_content IsChainTag (λ t. refl) (λ t h. h) chain_tag-back
    (headed-format 4 _ _ AreTagParts (lit< tt)
    (both-format _ _ _ _ _ _ (u16-format 0 15 BadField (lit< tt))
    (both-format _ _ _ _ _ _ stamp-format
    (both-format _ _ _ _ _ _ (u16-format 1 65535 BadField (lit< tt)) (bytes-format 32)))))

-- ---- panics

panic-back : (y : Content) → IsPanic y → (t : ℕ × ℕ) × (y ≡ panic_from t) × (IsWithin 0 15 t.0 × IsInstance t.1)
panic-back (Panic (Client c) instance) g = ((c, instance), refl, g)
panic-back (Panic (Replica r) instance) g = absurd g.0
panic-back y g = absurd g

pub panic-format : IsFormat panic_at spell_content IsPanic
unfolding panic_at
panic-format = inject-format panic_from _ _ (λ t. IsWithin 0 15 t.0 × IsInstance t.1) spell_content IsPanic (λ t. refl) (λ t h. h) panic-back
    (marked-format 5 BadCode _ _ _ (lit< tt) (both-format _ _ _ _ _ _ client-format instance-format))

-- ---- aborts

abort-spelled : (maker : Party) (instance : ℕ) (t : Trimmed) (whole : Bool) → eqb t.start 0 ≡ whole → spell_content (abort_of maker instance t) ≡ spell_head 6 maker instance (spell_trimmed t)
abort-spelled maker instance t true is = rw is refl
abort-spelled maker instance t false is =
    let trimmed : abort_of maker instance t ≡ TrimmedAbort maker instance t.start t.digest t.rest = rw is refl in
    ap spell_content trimmed

abort-fits : (r instance : ℕ) (t : Trimmed) (whole : Bool) → eqb t.start 0 ≡ whole → IsWithin 0 6 r → IsInstance instance → IsSpellable t → IsEitherAbort (abort_of (Replica r) instance t)
abort-fits r instance t true is here there fits = rw is (here, (there, fits.rest))
abort-fits r instance t false is here there fits =
    let some = positive t.start (eqb-false t.start 0 is) in
    rw is (here, (there, (some, fits)))
  where
    positive : (k : ℕ) → k ≢ 0 → 1 ≤ k
    positive k other = omega (arith, other)

abort-back : (y : Content) → IsEitherAbort y → (t : Headed Trimmed) × (y ≡ abort_from t) × IsHeaded IsSpellable t
abort-back (Abort (Replica r) instance h) g = ((r, (instance, untrimmed h)), refl, (g.0, (g.1.0, whole_fits h g.1.1)))
abort-back (Abort (Client c) instance h) g = absurd g.0
abort-back (TrimmedAbort (Replica r) instance start digest rest) g =
    let some : eqb start 0 ≡ false = ne_eqb start 0 (λ none. absurd (omega (arith, none, g.1.1.0))) in
    let t : Trimmed = record { start = start; digest = digest; rest = rest } in
    let is : abort_from (r, (instance, t)) ≡ TrimmedAbort (Replica r) instance start digest rest = rw some refl in
    ((r, (instance, t)), sym is, (g.0, (g.1.0, g.1.1.1)))
abort-back (TrimmedAbort (Client c) instance start digest rest) g = absurd g.0
abort-back y g = absurd g

pub abort-format : IsFormat abort_at spell_content IsEitherAbort
unfolding abort_at
abort-format =
    inject-format abort_from _ _ _ spell_content IsEitherAbort
    (λ t. abort-spelled (Replica t.0) t.1.0 t.1.1 (eqb t.1.1.start 0) refl)
    (λ t h. abort-fits t.0 t.1.0 t.1.1 (eqb t.1.1.start 0) refl h.0 h.1.0 h.1.1)
    abort-back (headed-format 6 _ _ IsSpellable (lit< tt) trimmed-format)

-- ---- slots

abbrev OfSlot : Type 0
OfSlot = ℕ × (ℕ × List ℕ)

abbrev AreOfSlot : OfSlot → Type 0
AreOfSlot t = IsView t.0 × (IsWithin 0 16 t.1.0 × (length t.1.1 ≡ 32))

slot-format : (code : ℕ) → code < 2 ^ 8 → IsFormat (marked code BadCode slot_parts_at) (λ t. u8_bytes code ++ spell_headed (λ (p : OfSlot). spell_slot p.0 p.1.0 p.1.1) t) (IsHeaded AreOfSlot)
unfolding slot_parts_at
slot-format code small = headed-format code _ _ AreOfSlot small (both-format _ _ _ _ _ _ view-format (both-format _ _ _ _ _ _ (u8-format 0 16 BadField (lit< tt)) (bytes-format 32)))

pre_prepare-back : (y : Content) → IsPrePrepare y → (t : SlotParts) × (y ≡ pre_prepare_from t) × IsHeaded AreOfSlot t
pre_prepare-back (PrePrepare (Replica r) instance view slot x) g = ((r, (instance, (view, (slot, x)))), refl, g)
pre_prepare-back (PrePrepare (Client c) instance view slot x) g = absurd g.0
pre_prepare-back y g = absurd g

pub pre_prepare-format : IsFormat pre_prepare_at spell_content IsPrePrepare
unfolding pre_prepare_at
pre_prepare-format = inject-format pre_prepare_from _ _ _ spell_content IsPrePrepare (λ t. refl) (λ t h. h) pre_prepare-back (slot-format 7 (lit< tt))

prepare-back : (y : Content) → IsPrepare y → (t : SlotParts) × (y ≡ prepare_from t) × IsHeaded AreOfSlot t
prepare-back (Prepare (Replica r) instance view slot x) g = ((r, (instance, (view, (slot, x)))), refl, g)
prepare-back (Prepare (Client c) instance view slot x) g = absurd g.0
prepare-back y g = absurd g

pub prepare-format : IsFormat prepare_at spell_content IsPrepare
unfolding prepare_at
prepare-format = inject-format prepare_from _ _ _ spell_content IsPrepare (λ t. refl) (λ t h. h) prepare-back (slot-format 8 (lit< tt))

commit-back : (y : Content) → IsCommit y → (t : SlotParts) × (y ≡ commit_from t) × IsHeaded AreOfSlot t
commit-back (Commit (Replica r) instance view slot x) g = ((r, (instance, (view, (slot, x)))), refl, g)
commit-back (Commit (Client c) instance view slot x) g = absurd g.0
commit-back y g = absurd g

pub commit-format : IsFormat commit_at spell_content IsCommit
unfolding commit_at
commit-format = inject-format commit_from _ _ _ spell_content IsCommit (λ t. refl) (λ t h. h) commit-back (slot-format 9 (lit< tt))

-- ---- view changes

pub entry-format : IsFormat entry_at spell_entry IsEntry
unfolding entry_at
entry-format = both-format _ _ _ _ _ _ view-format (bytes-format 32)

abbrev ChangeParts : Type 0
ChangeParts = ℕ × List (ℕ × List ℕ)

abbrev AreChangeParts : ChangeParts → Type 0
AreChangeParts t = IsView t.0 × AreCounted 0 17 IsEntry t.1

change-back : (y : Content) → IsChange y → (t : Headed ChangeParts) × (y ≡ change_from t) × IsHeaded AreChangeParts t
change-back (ViewChange (Replica r) instance view entries) g = ((r, (instance, (view, entries))), refl, g)
change-back (ViewChange (Client c) instance view entries) g = absurd g.0
change-back y g = absurd g

pub change-format : IsFormat change_at spell_content IsChange
unfolding change_at
change-format = inject-format change_from _ _ _ spell_content IsChange (λ t. refl) (λ t h. h) change-back
    (headed-format 10 _ _ AreChangeParts (lit< tt) (both-format _ _ _ _ _ _ view-format (u8_counted-format 0 17 entry_at spell_entry IsEntry (lit< tt) entry-format)))

new_view-back : (y : Content) → IsNewView y → (t : Headed ℕ) × (y ≡ new_view_from t) × IsHeaded IsView t
new_view-back (NewView (Replica r) instance view) g = ((r, (instance, view)), refl, g)
new_view-back (NewView (Client c) instance view) g = absurd g.0
new_view-back y g = absurd g

pub new_view-format : IsFormat new_view_at spell_content IsNewView
unfolding new_view_at
new_view-format = inject-format new_view_from _ _ _ spell_content IsNewView (λ t. refl) (λ t h. h) new_view-back (headed-format 11 _ _ IsView (lit< tt) view-format)

-- ---- what logs begin with

abbrev AreFrontParts : ℕ × List ℕ → Type 0
AreFrontParts t = IsWithin 1 65535 t.0 × (length t.1 ≡ 32)

checkpoint-back : (y : Content) → IsCheckpoint y → (t : Headed (ℕ × List ℕ)) × (y ≡ checkpoint_from t) × IsHeaded AreFrontParts t
checkpoint-back (Checkpoint (Replica r) instance n d) g = ((r, (instance, (n, d))), refl, g)
checkpoint-back (Checkpoint (Client c) instance n d) g = absurd g.0
checkpoint-back y g = absurd g

pub checkpoint-format : IsFormat checkpoint_at spell_content IsCheckpoint
unfolding checkpoint_at
checkpoint-format = inject-format checkpoint_from _ _ _ spell_content IsCheckpoint (λ t. refl) (λ t h. h) checkpoint-back
    (headed-format 12 _ _ AreFrontParts (lit< tt) (both-format _ _ _ _ _ _ (u16-format 1 65535 BadField (lit< tt)) (bytes-format 32)))

-- ---- signed answers, and what is kept of them

spec-back : (y : Content) → IsSpec y → (t : Headed RespParts) × (y ≡ spec_from t) × IsHeaded AreRespParts t
spec-back (Spec (Replica r) instance client stamp n d reply) g = ((r, (instance, (client, (stamp, (n, (d, reply.items)))))), refl, g)
spec-back (Spec (Client c) instance client stamp n d reply) g = absurd g.0
spec-back y g = absurd g

pub spec-format : IsFormat spec_at spell_content IsSpec
unfolding spec_at
spec-format = inject-format spec_from _ _ _ spell_content IsSpec (λ t. refl) (λ t h. h) spec-back
    (headed-format 13 _ _ AreRespParts (lit< tt)
    (both-format _ _ _ _ _ _ (u16-format 0 15 BadField (lit< tt))
    (both-format _ _ _ _ _ _ stamp-format
    (both-format _ _ _ _ _ _ (u16-format 1 65535 BadField (lit< tt))
    (both-format _ _ _ _ _ _ (bytes-format 32) (u8_text-format 0 72 (lit< tt)))))))

local_commit-back : (y : Content) → IsLocalCommit y → (t : Headed TagParts) × (y ≡ local_commit_from t) × IsHeaded AreTagParts t
local_commit-back (LocalCommit (Replica r) instance client stamp n d) g = ((r, (instance, (client, (stamp, (n, d))))), refl, g)
local_commit-back (LocalCommit (Client c) instance client stamp n d) g = absurd g.0
local_commit-back y g = absurd g

pub local_commit-format : IsFormat local_commit_at spell_content IsLocalCommit
unfolding local_commit_at
local_commit-format = inject-format local_commit_from _ _ _ spell_content IsLocalCommit (λ t. refl) (λ t h. h) local_commit-back
    (headed-format 14 _ _ AreTagParts (lit< tt)
    (both-format _ _ _ _ _ _ (u16-format 0 15 BadField (lit< tt))
    (both-format _ _ _ _ _ _ stamp-format
    (both-format _ _ _ _ _ _ (u16-format 1 65535 BadField (lit< tt)) (bytes-format 32)))))

abbrev AreZcertParts : ZcertParts → Type 0
AreZcertParts t = IsWithin 0 15 t.0 × (IsStamp t.1.0 × (IsWithin 1 65535 t.1.1.0 × ((length t.1.1.1.0 ≡ 32) × (IsWithin 0 72 (length t.1.1.1.1.0) × AreCounted 1 7 IsSigner t.1.1.1.1.1))))

zcert-back : (z : Zcert) → IsZcert z → (t : ZcertParts) × (z ≡ zcert_from t) × AreZcertParts t
zcert-back z g = ((z.client, (z.stamp, (z.n, (z.d, (z.reply.items, z.sigs))))), refl, g)

pub zcert-format : IsFormat zcert_at spell_zcert IsZcert
unfolding zcert_at
zcert-format = inject-format zcert_from _ _ AreZcertParts spell_zcert IsZcert (λ t. refl) (λ t h. h) zcert-back
    (both-format _ _ _ _ _ _ (u16-format 0 15 BadField (lit< tt))
    (both-format _ _ _ _ _ _ stamp-format
    (both-format _ _ _ _ _ _ (u16-format 1 65535 BadField (lit< tt))
    (both-format _ _ _ _ _ _ (bytes-format 32)
    (both-format _ _ _ _ _ _ (u8_text-format 0 72 (lit< tt)) (u8_counted-format 1 7 signer_at spell_signer IsSigner (lit< tt) signer-format))))))

abort_z-back : (y : Content) → IsAbortZ y → (t : Headed (List Request × Option Zcert)) × (y ≡ abort_z_from t) × IsHeaded (λ p. IsWritten p.0 × FitsInside IsZcert p.1) t
abort_z-back (AbortZ (Replica r) instance h zcert) g = ((r, (instance, (h, zcert))), refl, g)
abort_z-back (AbortZ (Client c) instance h zcert) g = absurd g.0
abort_z-back y g = absurd g

pub abort_z-format : IsFormat abort_z_at spell_content IsAbortZ
unfolding abort_z_at
abort_z-format = inject-format abort_z_from _ _ _ spell_content IsAbortZ (λ t. refl) (λ t h. h) abort_z-back
    (headed-format 15 _ _ (λ p. IsWritten p.0 × FitsInside IsZcert p.1) (lit< tt)
    (both-format _ _ _ _ _ _ history-format (optional-format zcert_at spell_zcert IsZcert zcert-format)))
