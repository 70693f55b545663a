-- Contents of the grammar differ in their bytes.
use Rattle.std.proofs.Common.{◌≡◌, ℕ, List, [], ◌++◌, get_or, refl, sym, ap, ◌∙◌, arith}
use Rattle.ab_form.specs.Readers.{Reader}
use Rattle.ab_form.specs.Formats.{IsFormat, u8_bytes}
use Rattle.ab_form.proofs.StepLemmas.{done_is}
use Rattle.ab_msg.specs.declared.content.Content.{Content}
use Rattle.ab_msg.specs.declared.content.Content.TheVariants.{Req, Order, Resp, ChainTag, Panic, Abort, PrePrepare, Prepare, Commit, ViewChange, NewView, Checkpoint, Spec, LocalCommit, AbortZ, TrimmedAbort}
use Rattle.ab_msg.specs.Contents.{IsReq, IsOrder, IsResp, IsChainTag, IsPanic, IsEitherAbort, IsPrePrepare, IsPrepare, IsCommit, IsChange, IsNewView, IsCheckpoint, IsSpec, IsLocalCommit, IsAbortZ, IsContent, spell_content}
use Rattle.ab_content.proofs.ContentLemmas.{req-format, order-format, resp-format, chain_tag-format, panic-format, abort-format, pre_prepare-format, prepare-format, commit-format, change-format, new_view-format, checkpoint-format, spec-format, local_commit-format, abort_z-format}

-- what has one spelling is one value
one : {A : Type 0} (r : Reader A) (s : A → List ℕ) (F : A → Type 0) → IsFormat r s F → (x y : A) → F x → F y → s x ≡ s y → x ≡ y
one {A} r s F format x y fx fy e =
    let a = format.again x [] fx in
    let b = format.again y [] fy in
    ap (λ (p : A × List ℕ). p.0) (done_is (x, []) (y, []) (sym a ∙ ap (λ (text : List ℕ). r (text ++ [])) e ∙ b))

abbrev code : Content → ℕ
code (Req maker instance request) = 1
code (Order maker instance n request) = 2
code (Resp maker instance client stamp n d reply) = 3
code (ChainTag maker instance client stamp n d) = 4
code (Panic maker instance) = 5
code (Abort maker instance history) = 6
code (PrePrepare maker instance view slot x) = 7
code (Prepare maker instance view slot x) = 8
code (Commit maker instance view slot x) = 9
code (ViewChange maker instance view entries) = 10
code (NewView maker instance view) = 11
code (Checkpoint maker instance n d) = 12
code (Spec maker instance client stamp n d reply) = 13
code (LocalCommit maker instance client stamp n d) = 14
code (AbortZ maker instance history zcert) = 15
code (TrimmedAbort maker instance start digest rest) = 6

-- the code is the first byte
first-byte : (c : Content) → get_or (spell_content c) 0 0 ≡ code c
unfolding u8_bytes
first-byte (Req maker instance request) = refl
first-byte (Order maker instance n request) = refl
first-byte (Resp maker instance client stamp n d reply) = refl
first-byte (ChainTag maker instance client stamp n d) = refl
first-byte (Panic maker instance) = refl
first-byte (Abort maker instance history) = refl
first-byte (PrePrepare maker instance view slot x) = refl
first-byte (Prepare maker instance view slot x) = refl
first-byte (Commit maker instance view slot x) = refl
first-byte (ViewChange maker instance view entries) = refl
first-byte (NewView maker instance view) = refl
first-byte (Checkpoint maker instance n d) = refl
first-byte (Spec maker instance client stamp n d reply) = refl
first-byte (LocalCommit maker instance client stamp n d) = refl
first-byte (AbortZ maker instance history zcert) = refl
first-byte (TrimmedAbort maker instance start digest rest) = refl

-- the kind is that of the code
is_req : (c : Content) → 1 ≡ code c → IsContent c → IsReq c
is_req (Req maker instance request) e h = h
is_req c e h = absurd (omega (arith, e))

is_order : (c : Content) → 2 ≡ code c → IsContent c → IsOrder c
is_order (Order maker instance n request) e h = h
is_order c e h = absurd (omega (arith, e))

is_resp : (c : Content) → 3 ≡ code c → IsContent c → IsResp c
is_resp (Resp maker instance client stamp n d reply) e h = h
is_resp c e h = absurd (omega (arith, e))

is_chain_tag : (c : Content) → 4 ≡ code c → IsContent c → IsChainTag c
is_chain_tag (ChainTag maker instance client stamp n d) e h = h
is_chain_tag c e h = absurd (omega (arith, e))

is_panic : (c : Content) → 5 ≡ code c → IsContent c → IsPanic c
is_panic (Panic maker instance) e h = h
is_panic c e h = absurd (omega (arith, e))

is_abort : (c : Content) → 6 ≡ code c → IsContent c → IsEitherAbort c
is_abort (Abort maker instance history) e h = h
is_abort (TrimmedAbort maker instance start digest rest) e h = h
is_abort c e h = absurd (omega (arith, e))

is_pre_prepare : (c : Content) → 7 ≡ code c → IsContent c → IsPrePrepare c
is_pre_prepare (PrePrepare maker instance view slot x) e h = h
is_pre_prepare c e h = absurd (omega (arith, e))

is_prepare : (c : Content) → 8 ≡ code c → IsContent c → IsPrepare c
is_prepare (Prepare maker instance view slot x) e h = h
is_prepare c e h = absurd (omega (arith, e))

is_commit : (c : Content) → 9 ≡ code c → IsContent c → IsCommit c
is_commit (Commit maker instance view slot x) e h = h
is_commit c e h = absurd (omega (arith, e))

is_change : (c : Content) → 10 ≡ code c → IsContent c → IsChange c
is_change (ViewChange maker instance view entries) e h = h
is_change c e h = absurd (omega (arith, e))

is_new_view : (c : Content) → 11 ≡ code c → IsContent c → IsNewView c
is_new_view (NewView maker instance view) e h = h
is_new_view c e h = absurd (omega (arith, e))

is_checkpoint : (c : Content) → 12 ≡ code c → IsContent c → IsCheckpoint c
is_checkpoint (Checkpoint maker instance n d) e h = h
is_checkpoint c e h = absurd (omega (arith, e))

is_spec : (c : Content) → 13 ≡ code c → IsContent c → IsSpec c
is_spec (Spec maker instance client stamp n d reply) e h = h
is_spec c e h = absurd (omega (arith, e))

is_local_commit : (c : Content) → 14 ≡ code c → IsContent c → IsLocalCommit c
is_local_commit (LocalCommit maker instance client stamp n d) e h = h
is_local_commit c e h = absurd (omega (arith, e))

is_abort_z : (c : Content) → 15 ≡ code c → IsContent c → IsAbortZ c
is_abort_z (AbortZ maker instance history zcert) e h = h
is_abort_z c e h = absurd (omega (arith, e))

same_code : (x y : Content) → spell_content x ≡ spell_content y → code x ≡ code y
same_code x y e = sym (first-byte x) ∙ ap (λ (t : List ℕ). get_or t 0 0) e ∙ first-byte y

pub own_bytes : (x y : Content) → IsContent x → IsContent y → spell_content x ≡ spell_content y → x ≡ y
own_bytes (Req maker instance request) y a b e = one _ spell_content IsReq req-format (Req maker instance request) y a (is_req y (same_code (Req maker instance request) y e) b) e
own_bytes (Order maker instance n request) y a b e = one _ spell_content IsOrder order-format (Order maker instance n request) y a (is_order y (same_code (Order maker instance n request) y e) b) e
own_bytes (Resp maker instance client stamp n d reply) y a b e = one _ spell_content IsResp resp-format (Resp maker instance client stamp n d reply) y a (is_resp y (same_code (Resp maker instance client stamp n d reply) y e) b) e
own_bytes (ChainTag maker instance client stamp n d) y a b e = one _ spell_content IsChainTag chain_tag-format (ChainTag maker instance client stamp n d) y a (is_chain_tag y (same_code (ChainTag maker instance client stamp n d) y e) b) e
own_bytes (Panic maker instance) y a b e = one _ spell_content IsPanic panic-format (Panic maker instance) y a (is_panic y (same_code (Panic maker instance) y e) b) e
own_bytes (Abort maker instance history) y a b e = one _ spell_content IsEitherAbort abort-format (Abort maker instance history) y a (is_abort y (same_code (Abort maker instance history) y e) b) e
own_bytes (PrePrepare maker instance view slot x) y a b e = one _ spell_content IsPrePrepare pre_prepare-format (PrePrepare maker instance view slot x) y a (is_pre_prepare y (same_code (PrePrepare maker instance view slot x) y e) b) e
own_bytes (Prepare maker instance view slot x) y a b e = one _ spell_content IsPrepare prepare-format (Prepare maker instance view slot x) y a (is_prepare y (same_code (Prepare maker instance view slot x) y e) b) e
own_bytes (Commit maker instance view slot x) y a b e = one _ spell_content IsCommit commit-format (Commit maker instance view slot x) y a (is_commit y (same_code (Commit maker instance view slot x) y e) b) e
own_bytes (ViewChange maker instance view entries) y a b e = one _ spell_content IsChange change-format (ViewChange maker instance view entries) y a (is_change y (same_code (ViewChange maker instance view entries) y e) b) e
own_bytes (NewView maker instance view) y a b e = one _ spell_content IsNewView new_view-format (NewView maker instance view) y a (is_new_view y (same_code (NewView maker instance view) y e) b) e
own_bytes (Checkpoint maker instance n d) y a b e = one _ spell_content IsCheckpoint checkpoint-format (Checkpoint maker instance n d) y a (is_checkpoint y (same_code (Checkpoint maker instance n d) y e) b) e
own_bytes (Spec maker instance client stamp n d reply) y a b e = one _ spell_content IsSpec spec-format (Spec maker instance client stamp n d reply) y a (is_spec y (same_code (Spec maker instance client stamp n d reply) y e) b) e
own_bytes (LocalCommit maker instance client stamp n d) y a b e = one _ spell_content IsLocalCommit local_commit-format (LocalCommit maker instance client stamp n d) y a (is_local_commit y (same_code (LocalCommit maker instance client stamp n d) y e) b) e
own_bytes (AbortZ maker instance history zcert) y a b e = one _ spell_content IsAbortZ abort_z-format (AbortZ maker instance history zcert) y a (is_abort_z y (same_code (AbortZ maker instance history zcert) y e) b) e
own_bytes (TrimmedAbort maker instance start digest rest) y a b e = one _ spell_content IsEitherAbort abort-format (TrimmedAbort maker instance start digest rest) y a (is_abort y (same_code (TrimmedAbort maker instance start digest rest) y e) b) e
