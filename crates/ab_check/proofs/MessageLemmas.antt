-- How many checks a message has.
use Rattle.std.proofs.Common.{ℕ, zero, suc, ◌+◌, ◌-◌, ◌*◌, ◌≤◌, leb, Bool, true, false, List, [], ◌∷◌, ◌++◌, map, length, Option, Some, None, All, arith}
use Rattle.std.specs.Prelude.{if◌then◌else◌}
use Rattle.std.proofs.lemmas.List.{length-append, length-map}
use Rattle.std.proofs.lemmas.List.Elements.{All-head, All-tail}
use Rattle.arrayvec.specs.ArrayVec.{ArrayVec}
use Rattle.ab_num.specs.Places.{at_position_of, position_in}
use Rattle.ab_num.specs.declared.party.Party.{Party}
use Rattle.ab_num.specs.declared.party.Party.TheVariants.{Replica, Client}
use Rattle.ab_hist.specs.declared.request.Request.{Request}
use Rattle.ab_msg.specs.declared.content.Content.{Content}
use Rattle.ab_msg.specs.declared.content.Content.TheVariants.{Req, Order, Resp, ChainTag, Panic, Abort, PrePrepare, Prepare, Commit, ViewChange, NewView, Checkpoint, Spec, LocalCommit, AbortZ, TrimmedAbort}
use Rattle.ab_msg.specs.declared.signed.Signed.{Signed}
use Rattle.ab_msg.specs.declared.zcert.Zcert.{Zcert}
use Rattle.ab_msg.specs.declared.change.Proof.{Proof}
use Rattle.ab_msg.specs.declared.message.Msg.{Msg}
use Rattle.ab_msg.specs.declared.message.Msg.TheVariants as msg
use Rattle.ab_msg.specs.declared.message.Offer.{Offer}
use Rattle.ab_msg.specs.declared.message.Offer.TheVariants as offer
use Rattle.ab_msg.specs.Claims.{asked, chain_claims, each_before, instance_of, maker_of, ordered, tag_of_position, tail_claims}
use Rattle.ab_msg.specs.Contents.{IsChange, IsStopContent, IsZcert}
use Rattle.ab_msg.specs.Certs.{ArePrepares, IsProof, IsSigned, entries_of}
use Rattle.ab_msg.specs.Messages.{IsMessage, IsOffer, slot_in}
use Rattle.ab_check.specs.Checks.{Check, abort_checks, aborts_checks, all_checks, answer_check, answers_checks, checks_of, kept_checks, offer_checks, prepare_check, proof_checks, slot_checks, slots_checks, tag_between, tagged}

-- ---- parts of messages

slots-few : (i slot : ℕ) (es : List (ℕ × List ℕ)) (ps : List (List (ℕ × List ℕ))) → All ArePrepares ps → length (slots_checks i slot es ps) ≤ 7 * length ps
slots-few i slot [] ps h = omega arith
slots-few i slot (e ∷ es) [] h = omega arith
slots-few i slot (e ∷ es) (by ∷ ps) h =
    let here = (All-head ArePrepares by ps h).0.1 in
    let more = slots-few i (suc slot) es ps (All-tail ArePrepares by ps h) in
    omega (arith, length-append (slot_checks i e.0 slot e.1 by) (slots_checks i (suc slot) es ps), length-map by (prepare_check i e.0 slot e.1), here, more)

change-entries : (c : Content) → IsChange c → length (entries_of c) ≤ 17
change-entries (ViewChange maker i view entries) h = h.1.1.1.0.1
change-entries c h = absurd h

proof-few : (v : Proof) → IsProof v → length (proof_checks v) ≤ 120
proof-few v h =
    let slots = slots-few (instance_of v.change.content) 0 (entries_of v.change.content) v.prepares h.1.1.1 in
    omega (arith, slots, h.1.1.0, change-entries v.change.content h.0.1.0)

changes-few : (vs : List Proof) → All IsProof vs → length (all_checks vs) ≤ 120 * length vs
changes-few [] h = omega arith
changes-few (v ∷ vs) h =
    omega (arith, length-append (proof_checks v) (all_checks vs), proof-few v (All-head IsProof v vs h), changes-few vs (All-tail IsProof v vs h))

-- a NEW-VIEW has at most 7 view changes
new_view-few : (vs : List Proof) → length vs ≤ 7 → All IsProof vs → length (all_checks vs) ≤ 840
new_view-few vs few h = omega (arith, few, changes-few vs h)

answers-few : (i : ℕ) (z : Zcert) → IsZcert z → length (answers_checks i z) ≤ 7
answers-few i z h = omega (arith, length-map z.sigs (answer_check i z), h.1.1.1.1.1.0.1)

kept-few : (c : Content) → IsStopContent c → length (kept_checks c) ≤ 7
kept-few (AbortZ maker i h None) g = omega arith
kept-few (AbortZ maker i h (Some z)) g = answers-few i z g.1.1.1
kept-few (Abort maker i h) g = omega arith
kept-few (TrimmedAbort maker i start digest rest) g = omega arith
kept-few c g = absurd g

abort-few : (s : Signed) → IsSigned IsStopContent s → length (abort_checks s) ≤ 8
abort-few s h = omega (arith, kept-few s.content h.1.0)

aborts-few : (ss : List Signed) → All (IsSigned IsStopContent) ss → length (aborts_checks ss) ≤ 8 * length ss
aborts-few [] h = omega arith
aborts-few (s ∷ ss) h =
    omega (arith, length-append (abort_checks s) (aborts_checks ss), abort-few s (All-head (IsSigned IsStopContent) s ss h), aborts-few ss (All-tail (IsSigned IsStopContent) s ss h))

-- a certificate has at most 7 ABORTs
cert-few : (ss : List Signed) → length ss ≤ 7 → All (IsSigned IsStopContent) ss → length (aborts_checks ss) ≤ 56
cert-few ss few h = omega (arith, few, aborts-few ss h)

offer-few : (i slot : ℕ) (o : Offer) → IsOffer slot o → length (offer_checks i o) ≤ 56
offer-few i slot (offer.Base aborts) h = cert-few aborts h.1.0.1 h.1.1
offer-few i slot (offer.Request m tag) h = omega arith

ordered-few : (c : Content) → length (ordered c) ≤ 1
ordered-few (Order maker i n m) = omega arith
ordered-few (Req maker i m) = omega arith
ordered-few (Resp maker i client stamp n d reply) = omega arith
ordered-few (ChainTag maker i client stamp n d) = omega arith
ordered-few (Panic maker i) = omega arith
ordered-few (Abort maker i h) = omega arith
ordered-few (PrePrepare maker i view slot x) = omega arith
ordered-few (Prepare maker i view slot x) = omega arith
ordered-few (Commit maker i view slot x) = omega arith
ordered-few (ViewChange maker i view entries) = omega arith
ordered-few (NewView maker i view) = omega arith
ordered-few (Checkpoint maker i n d) = omega arith
ordered-few (Spec maker i client stamp n d reply) = omega arith
ordered-few (LocalCommit maker i client stamp n d) = omega arith
ordered-few (AbortZ maker i h zcert) = omega arith
ordered-few (TrimmedAbort maker i start digest rest) = omega arith

order-few : (cs : List Check) (one : Check) → length cs ≤ 1 → length (cs ++ one ∷ []) ≤ 2
order-few cs one few = omega (arith, few, length-append cs (one ∷ []))

-- ---- along a chain

few-if : (b : Bool) (c : Content) (cs : List Content) (k : ℕ) → length cs ≤ k → length (if b then c ∷ cs else cs) ≤ suc k
few-if true c cs k few = omega (arith, few)
few-if false c cs k few = omega (arith, few)

few-before : (says : ℕ → Content) (n p : ℕ) → length (each_before n says p) ≤ n
few-before says zero p = omega arith
few-before says (suc k) p = few-if (leb (k + 2) p) (says (p - (k + 1))) (each_before k says p) k (few-before says k p)

few-replica : (f i : ℕ) (m : Request) (n : ℕ) (d : List ℕ) (p : ℕ) (b : Bool) → length (if b then asked i m ∷ each_before (f + 1) (tag_of_position f i m n d) p else each_before (f + 1) (tag_of_position f i m n d) p) ≤ f + 2
few-replica f i m n d p true = omega (arith, few-before (tag_of_position f i m n d) (f + 1) p)
few-replica f i m n d p false = omega (arith, few-before (tag_of_position f i m n d) (f + 1) p)

few-tail : (f i : ℕ) (m : Request) (n : ℕ) (d : List ℕ) (reply : Option (ArrayVec ℕ)) → length (tail_claims f i m n d reply) ≤ f + 2
few-tail f i m n d None = omega arith
few-tail f i m n d (Some reply) = omega (arith, few-before (λ q. Resp (Replica (at_position_of f i q)) i m.client m.stamp n d reply) (f + 1) (3 * f + 2))

few-chain : (f : ℕ) (me : Party) (i : ℕ) (m : Request) (n : ℕ) (d : List ℕ) (reply : Option (ArrayVec ℕ)) → length (chain_claims f me i m n d reply) ≤ f + 2
few-chain f (Replica r) i m n d reply = few-replica f i m n d (position_in f i r) (leb (position_in f i r) (f + 1))
few-chain f (Client c) i m n d reply = few-tail f i m n d reply

-- ---- messages

-- a message of the grammar has few checks
pub checks-few : (f : ℕ) (me : Party) (m : Msg) → f ≤ 2 → IsMessage m → length (checks_of f me m) ≤ 4294967295
checks-few f me (msg.Req content tags) few is = omega arith
checks-few f me (msg.Resp content tag) few is = omega arith
checks-few f me (msg.Chain i m n d reply tags) few is =
    omega (arith, few, few-chain f me i m n d reply, length-map (chain_claims f me i m n d reply) (λ c. tagged c (tag_between (maker_of c) me tags)))
checks-few f me (msg.Abort abort) few is = omega (arith, abort-few abort is)
checks-few f me (msg.Init cert) few is = omega (arith, cert-few cert is.0.1 is.1)
checks-few f me (msg.Order content client_tag tag) few is =
    let one = order-few (map (λ c. tagged c (Some client_tag)) (ordered content)) (tagged content (Some tag)) (omega (arith, ordered-few content, length-map (ordered content) (λ c. tagged c (Some client_tag)))) in
    omega (arith, one)
checks-few f me (msg.Panic content tag) few is = omega arith
checks-few f me (msg.PrePrepare content tag offer) few is = omega (arith, offer-few (instance_of content) (slot_in content) offer is.1)
checks-few f me (msg.Prepare prepare) few is = omega arith
checks-few f me (msg.Commit content tag) few is = omega arith
checks-few f me (msg.ViewChange change) few is = omega (arith, proof-few change is)
checks-few f me (msg.NewView content tag changes) few is = omega (arith, new_view-few changes is.1.1.0.1 is.1.1.1)
checks-few f me (msg.Checkpoint content tag) few is = omega arith
checks-few f me (msg.LocalCommit content tag) few is = omega arith
checks-few f me (msg.Spec spec) few is = omega arith
checks-few f me (msg.Cert i z) few is = omega (arith, answers-few i z is.1)
