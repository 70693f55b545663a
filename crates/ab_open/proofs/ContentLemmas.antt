-- The claims of a message are contents of the grammar.
use Rattle.std.proofs.Common.{◌≡◌, ◌≤◌, ◌<◌, ◌+◌, ◌-◌, ◌*◌, ℕ, zero, suc, Bool, true, false, cond, leb, List, [], ◌∷◌, ◌++◌, map, length, Option, Some, None, refl, arith, All}
use Rattle.std.specs.List.{Contains, flat_map}
use Rattle.std.proofs.lemmas.List.Elements.{All-nil, All-cons, All-head, All-tail, All-append, All-map, All-weaker, All-contains}
use Rattle.std.proofs.Math.Nat.{mod-lt}
use Rattle.arrayvec.specs.ArrayVec.{ArrayVec}
use Rattle.ab_num.specs.Bounds.{IsInBounds}
use Rattle.ab_num.specs.declared.party.Party.{Party}
use Rattle.ab_num.specs.declared.party.Party.TheVariants.{Replica, Client}
use Rattle.ab_num.specs.Places.{at_position_of, position_in}
use Rattle.ab_hist.specs.declared.request.Request.{Request}
use Rattle.ab_hist.specs.Histories.{IsHistory}
use Rattle.ab_form.specs.Formats.{IsWithin}
use Rattle.ab_form.specs.Lists.{FitsInside}
use Rattle.ab_msg.specs.declared.content.Content.{Content}
use Rattle.ab_msg.specs.declared.content.Content.TheVariants.{Order, Abort, AbortZ, TrimmedAbort, PrePrepare, Prepare, ViewChange}
use Rattle.ab_msg.specs.declared.signed.Signed.{Signed}
use Rattle.ab_msg.specs.declared.change.Proof.{Proof}
use Rattle.ab_msg.specs.declared.zcert.Zcert.{Zcert}
use Rattle.ab_msg.specs.declared.message.Msg.{Msg}
use Rattle.ab_msg.specs.declared.message.Msg.TheVariants as msg
use Rattle.ab_msg.specs.declared.message.Offer.{Offer}
use Rattle.ab_msg.specs.declared.message.Offer.TheVariants as offer
use Rattle.ab_msg.specs.Claims.{instance_of, asked, ordered, each_before, tag_of_position, chain_claims, spec_of, specs_of, kept_claims, signed_contents, offer_claims, slot_claims, prepared_claims, change_claims, claims}
use Rattle.ab_msg.specs.Carried.{stated_history}
use Rattle.ab_msg.specs.Fields.{IsInstance, IsReply, IsRequest, IsSigner}
use Rattle.ab_msg.specs.Contents.{IsContent, IsOrder, IsStopContent, IsZcert, IsPrePrepare, IsChange, IsEntry}
use Rattle.ab_msg.specs.Certs.{ArePrepares, IsProof, IsSigned}
use Rattle.ab_msg.specs.Messages.{IsMessage, IsOffer, slot_in}
use Rattle.ab_wire.proofs.KindLemmas.{req_content, resp_content, panic_content, abort_content, pre_prepare_content, prepare_content, commit_content, change_content, new_view_content, checkpoint_content, local_commit_content, spec_content}

one : (c : Content) → IsContent c → All IsContent (c ∷ [])
one c h = All-cons IsContent c [] h (All-nil IsContent)

request-content : (i : ℕ) (m : Request) → IsInstance i → IsRequest 0 15 m → IsContent (asked i m)
request-content i m hi hm = (refl, (hi, hm))

order-claims : (c : Content) → IsOrder c → All IsContent (ordered c ++ c ∷ [])
order-claims (Order maker i n m) h = All-cons IsContent (asked i m) (Order maker i n m ∷ []) (request-content i m h.1.0 h.1.1.1) (one (Order maker i n m) h)
order-claims c h = absurd h

-- ---- what replicas state as they stop

specs-content : (i : ℕ) (z : Zcert) → IsInstance i → IsZcert z → All IsContent (specs_of i z)
specs-content i z hi h =
    All-map IsContent (λ (s : ℕ × List ℕ). spec_of i z s.0) z.sigs
    (All-weaker IsSigner (λ (s : ℕ × List ℕ). IsContent (spec_of i z s.0)) (λ s g. (g.0, (hi, (h.0, (h.1.0, (h.1.1.0, (h.1.1.1.0, h.1.1.1.1.0))))))) z.sigs h.1.1.1.1.1.1)

kept-content : (c : Content) → IsStopContent c → All IsContent (kept_claims c)
kept-content (Abort maker i h) g = All-nil IsContent
kept-content (TrimmedAbort maker i start digest rest) g = All-nil IsContent
kept-content (AbortZ maker i h None) g = All-nil IsContent
kept-content (AbortZ maker i h (Some z)) g = specs-content i z g.1.0 g.1.1.1
kept-content c g = absurd g

abort-claims : (c : Content) → IsStopContent c → All IsContent (c ∷ kept_claims c)
abort-claims c h = All-cons IsContent c (kept_claims c) (abort_content c h) (kept-content c h)

signed-claims : (ss : List Signed) → All (IsSigned IsStopContent) ss → All IsContent (signed_contents ss)
signed-claims [] h = All-nil IsContent
signed-claims (s ∷ ss) h =
    All-append IsContent (s.content ∷ kept_claims s.content) (signed_contents ss)
    (abort-claims s.content (All-head (IsSigned IsStopContent) s ss h).1.0) (signed-claims ss (All-tail (IsSigned IsStopContent) s ss h))

-- ---- along a chain

each-if : (P : Content → Type 0) (says : ℕ → Content) (k p : ℕ) (b : Bool) → ((q : ℕ) → P (says q)) → All P (each_before k says p)
    → All P (cond b (says (p - (k + 1)) ∷ each_before k says p) (each_before k says p))
each-if P says k p true h more = All-cons P (says (p - (k + 1))) (each_before k says p) (h (p - (k + 1))) more
each-if P says k p false h more = more

-- what each position may say holds of all that those before one say
pub each : (P : Content → Type 0) (says : ℕ → Content) (k p : ℕ) → ((q : ℕ) → P (says q)) → All P (each_before k says p)
each P says zero p h = All-nil P
each P says (suc k) p h = each-if P says k p (leb (k + 2) p) h (each P says k p h)

pub front : (P : Content → Type 0) (i : ℕ) (m : Request) (b : Bool) (xs : List Content) → P (asked i m) → All P xs → All P (cond b (asked i m ∷ xs) xs)
front P i m true xs h more = All-cons P (asked i m) xs h more
front P i m false xs h more = more

position-few : (f i q : ℕ) → f ≤ 2 → IsWithin 0 6 (at_position_of f i q)
position-few f i q few =
    let some : 0 < 3 * f + 1 = omega arith in
    let lt = mod-lt (i - 1 + q - 1) some in
    (omega arith, omega (arith, lt))

chain-content : (f : ℕ) (me : Party) (i : ℕ) (m : Request) (n : ℕ) (d : List ℕ) (reply : Option (ArrayVec ℕ)) → f ≤ 2 → IsInstance i → IsRequest 0 15 m → IsWithin 1 65535 n → length d ≡ 32
    → FitsInside IsReply reply → All IsContent (chain_claims f me i m n d reply)
chain-content f (Replica r) i m n d reply few hi hm hn hd hr =
    front IsContent i m (leb (position_in f i r) (f + 1)) (each_before (f + 1) (tag_of_position f i m n d) (position_in f i r)) (request-content i m hi hm)
    (each IsContent (tag_of_position f i m n d) (f + 1) (position_in f i r) (λ q. (position-few f i q few, (hi, (hm.0, (hm.1.0, (hn, hd)))))))
chain-content f (Client c) i m n d None few hi hm hn hd hr = All-nil IsContent
chain-content f (Client c) i m n d (Some reply) few hi hm hn hd hr =
    each IsContent _ (f + 1) (3 * f + 2) (λ q. (position-few f i q few, (hi, (hm.0, (hm.1.0, (hn, (hd, hr)))))))

-- ---- view changes

slot-content : (i slot : ℕ) (e : ℕ × List ℕ) (by : List (ℕ × List ℕ)) → IsInstance i → slot ≤ 16 → IsEntry e → All IsSigner by
    → All IsContent (map (λ (s : ℕ × List ℕ). Prepare (Replica s.0) i e.0 slot e.1) by)
slot-content i slot e by hi le he hs =
    let at : IsWithin 0 16 slot = (omega arith, le) in
    All-map IsContent (λ (s : ℕ × List ℕ). Prepare (Replica s.0) i e.0 slot e.1) by
    (All-weaker IsSigner (λ (s : ℕ × List ℕ). IsContent (Prepare (Replica s.0) i e.0 slot e.1)) (λ s g. (g.0, (hi, (he.0, (at, he.1))))) by hs)

slots-content : (i slot : ℕ) (es : List (ℕ × List ℕ)) (ps : List (List (ℕ × List ℕ))) → IsInstance i → slot + length es ≤ 17 → All IsEntry es → All ArePrepares ps → All IsContent (slot_claims i slot es ps)
slots-content i slot [] ps hi le he hp = All-nil IsContent
slots-content i slot (e ∷ es) [] hi le he hp = All-nil IsContent
slots-content i slot (e ∷ es) (by ∷ ps) hi le he hp =
    All-append IsContent (map (λ (s : ℕ × List ℕ). Prepare (Replica s.0) i e.0 slot e.1) by) (slot_claims i (suc slot) es ps)
    (slot-content i slot e by hi (omega arith) (All-head IsEntry e es he) (All-head ArePrepares by ps hp).1)
    (slots-content i (suc slot) es ps hi (omega arith) (All-tail IsEntry e es he) (All-tail ArePrepares by ps hp))

prepared-content : (c : Content) (ps : List (List (ℕ × List ℕ))) → IsChange c → All ArePrepares ps → All IsContent (prepared_claims c ps)
prepared-content (ViewChange maker i view entries) ps h hp = slots-content i 0 entries ps h.1.0 (omega (arith, h.1.1.1.0.1)) h.1.1.1.1 hp
prepared-content c ps h hp = absurd h

change-content : (v : Proof) → IsProof v → All IsContent (change_claims v)
change-content v h =
    All-cons IsContent v.change.content (prepared_claims v.change.content v.prepares) (change_content v.change.content h.0.1.0) (prepared-content v.change.content v.prepares h.0.1.0 h.1.1.1)

changes-content : (vs : List Proof) → All IsProof vs → All IsContent (flat_map change_claims vs)
changes-content [] h = All-nil IsContent
changes-content (v ∷ vs) h =
    All-append IsContent (change_claims v) (flat_map change_claims vs) (change-content v (All-head IsProof v vs h)) (changes-content vs (All-tail IsProof v vs h))

-- ---- offers

value-instance : (c : Content) → IsPrePrepare c → IsInstance (instance_of c)
value-instance (PrePrepare maker i view slot x) h = h.1.0
value-instance c h = absurd h

offer-content : (i slot : ℕ) (o : Offer) → IsInstance i → IsOffer slot o → All IsContent (offer_claims i o)
offer-content i slot (offer.Base ss) hi h = signed-claims ss h.1.1
offer-content i slot (offer.Request m tag) hi h = one (asked i m) (request-content i m hi h.1.0)

-- ---- all of a message

pub claims-content : (f clients : ℕ) (me : Party) (m : Msg) → IsInBounds f clients → IsMessage m → All IsContent (claims f me m)
claims-content f clients me (msg.Req content tags) b h = one content (req_content content h.0)
claims-content f clients me (msg.Order content client_tag tag) b h = order-claims content h.0
claims-content f clients me (msg.Resp content tag) b h = one content (resp_content content h.0)
claims-content f clients me (msg.Chain i m n d reply tags) b h = chain-content f me i m n d reply b.few_faulty h.0 h.1.0 h.1.1.0 h.1.1.1.0 h.1.1.1.1.0
claims-content f clients me (msg.Panic content tag) b h = one content (panic_content content h.0)
claims-content f clients me (msg.Abort abort) b h = abort-claims abort.content h.1.0
claims-content f clients me (msg.Init cert) b h = signed-claims cert h.1
claims-content f clients me (msg.PrePrepare content tag offer) b h =
    All-cons IsContent content (offer_claims (instance_of content) offer) (pre_prepare_content content h.0.0) (offer-content (instance_of content) (slot_in content) offer (value-instance content h.0.0) h.1)
claims-content f clients me (msg.Prepare prepare) b h = one prepare.content (prepare_content prepare.content h.1.0)
claims-content f clients me (msg.Commit content tag) b h = one content (commit_content content h.0)
claims-content f clients me (msg.ViewChange change) b h = change-content change h
claims-content f clients me (msg.NewView content tag changes) b h =
    All-cons IsContent content (flat_map change_claims changes) (new_view_content content h.0) (changes-content changes h.1.1.1)
claims-content f clients me (msg.Checkpoint content tag) b h = one content (checkpoint_content content h.0)
claims-content f clients me (msg.LocalCommit content tag) b h = one content (local_commit_content content h.0)
claims-content f clients me (msg.Spec spec) b h = one spec.content (spec_content spec.content h.1.0)
claims-content f clients me (msg.Cert i z) b h = specs-content i z h.0 h.1

-- ---- histories

history-rises : (c : Content) → IsContent c → All IsHistory (stated_history c)
history-rises (Abort maker i h) g = All-cons IsHistory h [] g.1.1.1.1 (All-nil IsHistory)
history-rises (AbortZ maker i h zcert) g = All-cons IsHistory h [] g.1.1.0.1.1 (All-nil IsHistory)
history-rises c g = All-nil IsHistory

histories-rise : (cs : List Content) → All IsContent cs → All IsHistory (flat_map stated_history cs)
histories-rise [] h = All-nil IsHistory
histories-rise (c ∷ cs) h =
    All-append IsHistory (stated_history c) (flat_map stated_history cs) (history-rises c (All-head IsContent c cs h)) (histories-rise cs (All-tail IsContent c cs h))

pub claims-rise : (f clients : ℕ) (me : Party) (m : Msg) → IsInBounds f clients → IsMessage m → (h : List Request) → Contains (flat_map stated_history (claims f me m)) h → IsHistory h
claims-rise f clients me m b g h here =
    All-contains IsHistory (flat_map stated_history (claims f me m)) h (histories-rise (claims f me m) (claims-content f clients me m b g)) here
