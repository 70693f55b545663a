-- Whom a message names.
use Rattle.std.proofs.Common.{◌≡◌, ℕ, zero, suc, ◌+◌, ◌-◌, ◌*◌, ◌<◌, leb, Bool, true, false, ◌&&◌, cond, List, [], ◌∷◌, ◌++◌, length, map, Option, Some, None, All, append_assoc, refl, sym, ap, ◌∙◌, arith}
use Rattle.std.specs.List.{list_all, flat_map}
use Rattle.std.proofs.lemmas.Grind.{flat_map-append}
use Rattle.std.proofs.lemmas.List.Elements.{All-head, All-tail}
use Rattle.std.proofs.lemmas.Bool.{lt-ltb}
use Rattle.std.proofs.Math.Bool.{and_assoc, and-true}
use Rattle.std.proofs.Math.Nat.{mod-lt}
use Rattle.std.proofs.lemmas.List.{append-nil, map-append}
use Rattle.std.proofs.lemmas.List.Folds.{list_all-append}
use Rattle.arrayvec.specs.ArrayVec.{ArrayVec}
use Rattle.ab_num.specs.declared.party.Party.{Party}
use Rattle.ab_num.specs.declared.party.Party.TheVariants.{Replica, Client}
use Rattle.ab_num.specs.Places.{at_position_of, position_in}
use Rattle.ab_hist.specs.declared.request.Request.{Request}
use Rattle.ab_keys.specs.Keys.{is_party}
use Rattle.ab_msg.specs.declared.content.Content.{Content}
use Rattle.ab_msg.specs.declared.content.Content.TheVariants.{Req, Order, Abort, AbortZ, Prepare, ViewChange}
use Rattle.ab_msg.specs.declared.signed.Signed.{Signed}
use Rattle.ab_msg.specs.declared.change.Proof.{Proof}
use Rattle.ab_msg.specs.declared.zcert.Zcert.{Zcert}
use Rattle.ab_msg.specs.declared.value.Value.TheVariants as value
use Rattle.ab_msg.specs.declared.chain_tags.TagBetween.{TagBetween}
use Rattle.ab_msg.specs.declared.message.Msg.TheVariants as msg
use Rattle.ab_msg.specs.declared.message.Offer.{Offer}
use Rattle.ab_msg.specs.declared.message.Offer.TheVariants as offer
use Rattle.ab_msg.specs.Claims.{instance_of, asked, each_before, tag_of_position, chain_claims, spec_of, specs_of, kept_claims, signed_contents, slot_claims, prepared_claims, change_claims, offer_claims}
use Rattle.ab_msg.specs.Carried.{parties_of, parties_of_content, stated_history, cert_histories, value_histories, value_requests, offer_histories, offer_requests}
use Rattle.ab_msg.specs.Contents.{IsReq, IsOrder, IsChange}
use Rattle.ab_msg.specs.Certs.{IsProof, entries_of}
use Rattle.ab_open.specs.Named.{clients_of, signers_of, answers_name, kept_names, abort_names, values_name, aborts_name, offer_names, change_names}

-- ---- tests

twice : (a : Bool) → (a && a) ≡ a
twice true = refl
twice false = refl

again : (a b : Bool) → ((a && b) && b) ≡ (a && b)
again true b = twice b
again false b = refl

interchange : (a b c d : Bool) → ((a && b) && (c && d)) ≡ ((a && c) && (b && d))
interchange true true c d = refl
interchange true false true d = refl
interchange true false false d = refl
interchange false b c d = refl

-- two sides of three tests
six : (a a' b b' c c' : Bool) (x y z here there whole : Bool) → x ≡ (a && a') → y ≡ (b && b') → z ≡ (c && c') → here ≡ (a && (b && c)) → (a' && (b' && c')) ≡ there → whole ≡ (here && there)
    → (x && (y && z)) ≡ whole
six a a' b b' c c' x y z here there whole p q r s t u =
    ap (λ (w : Bool). w && (y && z)) p ∙ ap (λ (w : Bool). (a && a') && (w && z)) q ∙ ap (λ (w : Bool). (a && a') && ((b && b') && w)) r
    ∙ ap (λ (w : Bool). (a && a') && w) (interchange b b' c c') ∙ interchange a a' (b && c) (b' && c')
    ∙ ap (λ (w : Bool). w && (a' && (b' && c'))) (sym s) ∙ ap (λ (w : Bool). here && w) t ∙ sym u

-- what a test follows from adds nothing
implied : (a b : Bool) → (b ≡ true → a ≡ true) → (a && b) ≡ b
implied true b h = refl
implied false true h = h refl
implied false false h = refl

req-test : (a b : Bool) → (a && (b && (b && true))) ≡ (a && (b && true))
req-test a true = refl
req-test a false = refl

order-test : (a b : Bool) → (b && (b && (a && (b && (b && true))))) ≡ (a && (b && true))
order-test a true = refl
order-test true false = refl
order-test false false = refl

offer-test : (b : Bool) → ((b && (b && true)) && (b && true)) ≡ (b && true)
offer-test true = refl
offer-test false = refl

-- ---- contents by themselves

one-content : (P : Party → Bool) (xs : List Party) → list_all P ((xs ++ []) ++ []) ≡ list_all P xs
one-content P xs = ap (list_all P) (append-nil (xs ++ []) ∙ append-nil xs)

pub req-names : (P : Party → Bool) (f : ℕ) (me : Party) (c : Content) (tags : ArrayVec (ℕ × List ℕ)) → IsReq c → list_all P (parties_of f me (msg.Req c tags)) ≡ list_all P (parties_of_content c)
req-names P f me (Req maker i m) tags h = req-test (P maker) (P (Client m.client))
req-names P f me c tags h = absurd h

pub order-names : (P : Party → Bool) (f : ℕ) (me : Party) (c : Content) (client_tag tag : List ℕ) → IsOrder c → list_all P (parties_of f me (msg.Order c client_tag tag)) ≡ list_all P (parties_of_content c)
order-names P f me (Order maker i n m) client_tag tag h = order-test (P maker) (P (Client m.client))
order-names P f me c client_tag tag h = absurd h

pub resp-names : (P : Party → Bool) (f : ℕ) (me : Party) (c : Content) (tag : List ℕ) → list_all P (parties_of f me (msg.Resp c tag)) ≡ list_all P (parties_of_content c)
resp-names P f me c tag = one-content P (parties_of_content c)

pub panic-names : (P : Party → Bool) (f : ℕ) (me : Party) (c : Content) (tag : List ℕ) → list_all P (parties_of f me (msg.Panic c tag)) ≡ list_all P (parties_of_content c)
panic-names P f me c tag = one-content P (parties_of_content c)

pub commit-names : (P : Party → Bool) (f : ℕ) (me : Party) (c : Content) (tag : List ℕ) → list_all P (parties_of f me (msg.Commit c tag)) ≡ list_all P (parties_of_content c)
commit-names P f me c tag = one-content P (parties_of_content c)

pub prepare-names : (P : Party → Bool) (f : ℕ) (me : Party) (s : Signed) → list_all P (parties_of f me (msg.Prepare s)) ≡ list_all P (parties_of_content s.content)
prepare-names P f me s = one-content P (parties_of_content s.content)

pub checkpoint-names : (P : Party → Bool) (f : ℕ) (me : Party) (c : Content) (tag : List ℕ) → list_all P (parties_of f me (msg.Checkpoint c tag)) ≡ list_all P (parties_of_content c)
checkpoint-names P f me c tag = one-content P (parties_of_content c)

pub local_commit-names : (P : Party → Bool) (f : ℕ) (me : Party) (c : Content) (tag : List ℕ) → list_all P (parties_of f me (msg.LocalCommit c tag)) ≡ list_all P (parties_of_content c)
local_commit-names P f me c tag = one-content P (parties_of_content c)

pub spec-names : (P : Party → Bool) (f : ℕ) (me : Party) (s : Signed) → list_all P (parties_of f me (msg.Spec s)) ≡ list_all P (parties_of_content s.content)
spec-names P f me s = one-content P (parties_of_content s.content)

-- ---- histories and certificates

-- a history's clients are named by its content
history-named : (P : Party → Bool) (c : Content) → (list_all P (parties_of_content c) && list_all P (flat_map clients_of (stated_history c))) ≡ list_all P (parties_of_content c)
history-named P (Abort maker i h) =
    ap (λ (xs : List Party). (P maker && list_all P (clients_of h)) && list_all P xs) (append-nil (clients_of h)) ∙ again (P maker) (list_all P (clients_of h))
history-named P (AbortZ maker i h zcert) =
    ap (λ (xs : List Party). (P maker && list_all P (clients_of h)) && list_all P xs) (append-nil (clients_of h)) ∙ again (P maker) (list_all P (clients_of h))
history-named P c = and-true (list_all P (parties_of_content c))

answers-named : (i : ℕ) (z : Zcert) (by : List (ℕ × List ℕ)) → flat_map parties_of_content (map (λ (s : ℕ × List ℕ). spec_of i z s.0) by) ≡ answers_name z.client by
answers-named i z [] = refl
answers-named i z (s ∷ by) = ap (λ (xs : List Party). Replica s.0 ∷ Client z.client ∷ xs) (answers-named i z by)

kept-named : (c : Content) → flat_map parties_of_content (kept_claims c) ≡ kept_names c
kept-named (AbortZ maker i h None) = refl
kept-named (AbortZ maker i h (Some z)) = answers-named i z z.sigs
kept-named c = refl

stopped-named : (c : Content) → flat_map parties_of_content (c ∷ kept_claims c) ≡ abort_names c
stopped-named c = ap (λ (xs : List Party). parties_of_content c ++ xs) (kept-named c)

-- what the first of three tests says already adds nothing behind the second
behind : (a b c : Bool) → (a && c) ≡ a → ((a && b) && c) ≡ (a && b)
behind true true c h = h
behind true false c h = refl
behind false b c h = refl

abort-named : (P : Party → Bool) (c : Content) → (list_all P (abort_names c) && list_all P (flat_map clients_of (stated_history c))) ≡ list_all P (abort_names c)
abort-named P c =
    let here : list_all P (abort_names c) ≡ (list_all P (parties_of_content c) && list_all P (kept_names c)) = list_all-append P (parties_of_content c) (kept_names c) in
    ap (λ (b : Bool). b && list_all P (flat_map clients_of (stated_history c))) here
    ∙ behind (list_all P (parties_of_content c)) (list_all P (kept_names c)) (list_all P (flat_map clients_of (stated_history c))) (history-named P c)
    ∙ sym here

pub abort-names : (P : Party → Bool) (f : ℕ) (me : Party) (s : Signed) → list_all P (parties_of f me (msg.Abort s)) ≡ list_all P (abort_names s.content)
abort-names P f me s =
    list_all-append P (flat_map parties_of_content (s.content ∷ kept_claims s.content)) (flat_map clients_of (stated_history s.content))
    ∙ ap (λ (xs : List Party). list_all P xs && list_all P (flat_map clients_of (stated_history s.content))) (stopped-named s.content)
    ∙ abort-named P s.content

aborts-contents : (ss : List Signed) → flat_map parties_of_content (signed_contents ss) ≡ aborts_name ss
aborts-contents [] = refl
aborts-contents (s ∷ ss) =
    flat_map-append parties_of_content (s.content ∷ kept_claims s.content) (signed_contents ss)
    ∙ ap (λ (xs : List Party). xs ++ flat_map parties_of_content (signed_contents ss)) (stopped-named s.content)
    ∙ ap (λ (xs : List Party). abort_names s.content ++ xs) (aborts-contents ss)

aborts-named : (P : Party → Bool) (ss : List Signed) → (list_all P (aborts_name ss) && list_all P (flat_map clients_of (cert_histories ss))) ≡ list_all P (aborts_name ss)
aborts-named P [] = refl
aborts-named P (s ∷ ss) =
    let c : List Party = abort_names s.content in
    let h : List Party = flat_map clients_of (stated_history s.content) in
    let more : List Party = aborts_name ss in
    let hs : List Party = flat_map clients_of (cert_histories ss) in
    let here : list_all P (c ++ more) ≡ (list_all P c && list_all P more) = list_all-append P c more in
    let split : list_all P (flat_map clients_of (stated_history s.content ++ cert_histories ss)) ≡ (list_all P h && list_all P hs) =
    ap (list_all P) (flat_map-append clients_of (stated_history s.content) (cert_histories ss)) ∙ list_all-append P h hs in
    ap (λ (b : Bool). b && list_all P (flat_map clients_of (stated_history s.content ++ cert_histories ss))) here
    ∙ ap (λ (b : Bool). (list_all P c && list_all P more) && b) split
    ∙ interchange (list_all P c) (list_all P more) (list_all P h) (list_all P hs)
    ∙ ap (λ (b : Bool). b && (list_all P more && list_all P hs)) (abort-named P s.content)
    ∙ ap (λ (b : Bool). list_all P c && b) (aborts-named P ss)
    ∙ sym here

pub init-names : (P : Party → Bool) (f : ℕ) (me : Party) (ss : List Signed) → list_all P (parties_of f me (msg.Init ss)) ≡ list_all P (aborts_name ss)
init-names P f me ss =
    list_all-append P (flat_map parties_of_content (signed_contents ss)) (flat_map clients_of (cert_histories ss))
    ∙ ap (λ (xs : List Party). list_all P xs && list_all P (flat_map clients_of (cert_histories ss))) (aborts-contents ss)
    ∙ aborts-named P ss

pub cert-names : (P : Party → Bool) (f : ℕ) (me : Party) (i : ℕ) (z : Zcert) → list_all P (parties_of f me (msg.Cert i z)) ≡ list_all P (answers_name z.client z.sigs)
cert-names P f me i z = ap (list_all P) (append-nil (flat_map parties_of_content (specs_of i z)) ∙ answers-named i z z.sigs)

-- ---- offers

abbrev offered_clients : Offer → List Party
offered_clients (offer.Base aborts) = flat_map clients_of (cert_histories aborts)
offered_clients (offer.Request m tag) = Client m.client ∷ []

offer-named : (P : Party → Bool) (i : ℕ) (o : Offer) → (list_all P (flat_map parties_of_content (offer_claims i o)) && list_all P (offered_clients o)) ≡ list_all P (offer_names o)
offer-named P i (offer.Base ss) =
    ap (λ (xs : List Party). list_all P xs && list_all P (flat_map clients_of (cert_histories ss))) (aborts-contents ss) ∙ aborts-named P ss
offer-named P i (offer.Request m tag) = offer-test (P (Client m.client))

offer-clients : (o : Offer) → map (λ (r : Request). Client r.client) (offer_requests o) ++ flat_map clients_of (offer_histories o) ≡ offered_clients o
offer-clients (offer.Base ss) = refl
offer-clients (offer.Request m tag) = refl

pub pre_prepare-names : (P : Party → Bool) (f : ℕ) (me : Party) (c : Content) (tag : List ℕ) (o : Offer)
    → list_all P (parties_of f me (msg.PrePrepare c tag o)) ≡ (list_all P (parties_of_content c) && list_all P (offer_names o))
pre_prepare-names P f me c tag o =
    let here : List Party = parties_of_content c in
    let claimed : List Party = flat_map parties_of_content (offer_claims (instance_of c) o) in
    list_all-append P (here ++ claimed) (map (λ (r : Request). Client r.client) (offer_requests o) ++ flat_map clients_of (offer_histories o))
    ∙ ap (λ (b : Bool). b && list_all P (map (λ (r : Request). Client r.client) (offer_requests o) ++ flat_map clients_of (offer_histories o))) (list_all-append P here claimed)
    ∙ ap (λ (xs : List Party). (list_all P here && list_all P claimed) && list_all P xs) (offer-clients o)
    ∙ and_assoc (list_all P here) (list_all P claimed) (list_all P (offered_clients o))
    ∙ ap (λ (b : Bool). list_all P here && b) (offer-named P (instance_of c) o)

-- ---- values

requests-of : (rs : List Request) → value_requests (map value.Request rs) ≡ rs
requests-of [] = refl
requests-of (m ∷ rs) = ap (λ (xs : List Request). m ∷ xs) (requests-of rs)

histories-of : (rs : List Request) → value_histories (map value.Request rs) ≡ []
histories-of [] = refl
histories-of (m ∷ rs) = histories-of rs

pub values-test : (P : Party → Bool) (h rs : List Request) → list_all P (values_name (value.Base h ∷ map value.Request rs)) ≡ (list_all P (clients_of rs) && list_all P (clients_of h))
values-test P h rs =
    ap (λ (xs : List Request). list_all P (clients_of xs ++ flat_map clients_of (h ∷ value_histories (map value.Request rs)))) (requests-of rs)
    ∙ ap (λ (hs : List (List Request)). list_all P (clients_of rs ++ flat_map clients_of (h ∷ hs))) (histories-of rs)
    ∙ ap (λ (xs : List Party). list_all P (clients_of rs ++ xs)) (append-nil (clients_of h))
    ∙ list_all-append P (clients_of rs) (clients_of h)

-- ---- view changes

makers : (i view slot : ℕ) (x : List ℕ) (by : List (ℕ × List ℕ)) → flat_map parties_of_content (map (λ (s : ℕ × List ℕ). Prepare (Replica s.0) i view slot x) by) ≡ signers_of by
makers i view slot x [] = refl
makers i view slot x (s ∷ by) = ap (λ (xs : List Party). Replica s.0 ∷ xs) (makers i view slot x by)

slots-name : (i slot : ℕ) (es : List (ℕ × List ℕ)) (ps : List (List (ℕ × List ℕ))) → length ps ≡ length es → flat_map parties_of_content (slot_claims i slot es ps) ≡ flat_map signers_of ps
slots-name i slot [] [] e = refl
slots-name i slot [] (by ∷ ps) e = absurd (omega (arith, e))
slots-name i slot (x ∷ es) [] e = absurd (omega (arith, e))
slots-name i slot (x ∷ es) (by ∷ ps) e =
    let same : length ps ≡ length es = omega (arith, e) in
    flat_map-append parties_of_content (map (λ (s : ℕ × List ℕ). Prepare (Replica s.0) i x.0 slot x.1) by) (slot_claims i (suc slot) es ps)
    ∙ ap (λ (xs : List Party). xs ++ flat_map parties_of_content (slot_claims i (suc slot) es ps)) (makers i x.0 slot x.1 by)
    ∙ ap (λ (xs : List Party). signers_of by ++ xs) (slots-name i (suc slot) es ps same)

prepared-name : (c : Content) (ps : List (List (ℕ × List ℕ))) → IsChange c → length ps ≡ length (entries_of c) → flat_map parties_of_content (prepared_claims c ps) ≡ flat_map signers_of ps
prepared-name (ViewChange maker i view entries) ps h e = slots-name i 0 entries ps e
prepared-name c ps h e = absurd h

abbrev change_makers : Proof → List Party
change_makers v = parties_of_content v.change.content ++ flat_map signers_of v.prepares

change-claimed : (v : Proof) → IsProof v → flat_map parties_of_content (change_claims v) ≡ change_makers v
change-claimed v h = ap (λ (xs : List Party). parties_of_content v.change.content ++ xs) (prepared-name v.change.content v.prepares h.0.1.0 h.1.1.0)

pub change-names : (P : Party → Bool) (f : ℕ) (me : Party) (v : Proof) → IsProof v → list_all P (parties_of f me (msg.ViewChange v)) ≡ list_all P (change_names v)
change-names P f me v h =
    ap (λ (xs : List Party). list_all P (xs ++ values_name v.values)) (change-claimed v h)
    ∙ ap (list_all P) (append_assoc (parties_of_content v.change.content) (flat_map signers_of v.prepares) (values_name v.values))

-- ---- several of them

abbrev requests_of : List Proof → List Request
requests_of vs = flat_map (λ (v : Proof). value_requests v.values) vs

abbrev histories_of : List Proof → List (List Request)
histories_of vs = flat_map (λ (v : Proof). value_histories v.values) vs

abbrev claimed_of : List Proof → List Party
claimed_of vs = flat_map parties_of_content (flat_map change_claims vs)

change-parts : (P : Party → Bool) (v : Proof)
    → list_all P (change_names v) ≡ (list_all P (change_makers v) && (list_all P (clients_of (value_requests v.values)) && list_all P (flat_map clients_of (value_histories v.values))))
change-parts P v =
    ap (list_all P) (sym (append_assoc (parties_of_content v.change.content) (flat_map signers_of v.prepares) (values_name v.values)))
    ∙ list_all-append P (change_makers v) (values_name v.values)
    ∙ ap (λ (b : Bool). list_all P (change_makers v) && b) (list_all-append P (clients_of (value_requests v.values)) (flat_map clients_of (value_histories v.values)))

changes-named : (P : Party → Bool) (vs : List Proof) → All IsProof vs
    → (list_all P (claimed_of vs) && (list_all P (clients_of (requests_of vs)) && list_all P (flat_map clients_of (histories_of vs)))) ≡ list_all P (flat_map change_names vs)
changes-named P [] h = refl
changes-named P (v ∷ vs) h =
    let claimed : list_all P (claimed_of (v ∷ vs)) ≡ (list_all P (change_makers v) && list_all P (claimed_of vs)) =
    ap (list_all P) (flat_map-append parties_of_content (change_claims v) (flat_map change_claims vs))
    ∙ list_all-append P (flat_map parties_of_content (change_claims v)) (claimed_of vs)
    ∙ ap (λ (xs : List Party). list_all P xs && list_all P (claimed_of vs)) (change-claimed v (All-head IsProof v vs h)) in
    let requests : list_all P (clients_of (requests_of (v ∷ vs))) ≡ (list_all P (clients_of (value_requests v.values)) && list_all P (clients_of (requests_of vs))) =
    ap (list_all P) (map-append (λ (m : Request). Client m.client) (value_requests v.values) (requests_of vs))
    ∙ list_all-append P (clients_of (value_requests v.values)) (clients_of (requests_of vs)) in
    let histories : list_all P (flat_map clients_of (histories_of (v ∷ vs))) ≡ (list_all P (flat_map clients_of (value_histories v.values)) && list_all P (flat_map clients_of (histories_of vs))) =
    ap (list_all P) (flat_map-append clients_of (value_histories v.values) (histories_of vs))
    ∙ list_all-append P (flat_map clients_of (value_histories v.values)) (flat_map clients_of (histories_of vs)) in
    six (list_all P (change_makers v)) (list_all P (claimed_of vs)) (list_all P (clients_of (value_requests v.values))) (list_all P (clients_of (requests_of vs)))
    (list_all P (flat_map clients_of (value_histories v.values))) (list_all P (flat_map clients_of (histories_of vs))) _ _ _ _ _ _ claimed requests histories
    (change-parts P v) (changes-named P vs (All-tail IsProof v vs h)) (list_all-append P (change_names v) (flat_map change_names vs))

pub new_view-names : (P : Party → Bool) (f : ℕ) (me : Party) (c : Content) (tag : List ℕ) (vs : List Proof) → All IsProof vs
    → list_all P (parties_of f me (msg.NewView c tag vs)) ≡ (list_all P (parties_of_content c) && list_all P (flat_map change_names vs))
new_view-names P f me c tag vs h =
    let here : List Party = parties_of_content c in
    list_all-append P (here ++ claimed_of vs) (clients_of (requests_of vs) ++ flat_map clients_of (histories_of vs))
    ∙ ap (λ (b : Bool). b && list_all P (clients_of (requests_of vs) ++ flat_map clients_of (histories_of vs))) (list_all-append P here (claimed_of vs))
    ∙ ap (λ (b : Bool). (list_all P here && list_all P (claimed_of vs)) && b) (list_all-append P (clients_of (requests_of vs)) (flat_map clients_of (histories_of vs)))
    ∙ and_assoc (list_all P here) (list_all P (claimed_of vs)) (list_all P (clients_of (requests_of vs)) && list_all P (flat_map clients_of (histories_of vs)))
    ∙ ap (λ (b : Bool). list_all P here && b) (changes-named P vs h)

-- ---- along a chain

-- a replica at a position is one of the cluster
position-is : (f clients i q : ℕ) → is_party f clients (Replica (at_position_of f i q)) ≡ true
position-is f clients i q =
    let some : 0 < 3 * f + 1 = omega arith in
    lt-ltb (at_position_of f i q) (3 * f + 1) (mod-lt (i - 1 + q - 1) some)

each-named-if : (P : Party → Bool) (says : ℕ → Content) (k p : ℕ) (b : Bool) → ((q : ℕ) → list_all P (parties_of_content (says q)) ≡ true)
    → list_all P (flat_map parties_of_content (each_before k says p)) ≡ true
    → list_all P (flat_map parties_of_content (cond b (says (p - (k + 1)) ∷ each_before k says p) (each_before k says p))) ≡ true
each-named-if P says k p true h more =
    list_all-append P (parties_of_content (says (p - (k + 1)))) (flat_map parties_of_content (each_before k says p))
    ∙ ap (λ (b : Bool). b && list_all P (flat_map parties_of_content (each_before k says p))) (h (p - (k + 1)))
    ∙ more
each-named-if P says k p false h more = more

each-named : (P : Party → Bool) (says : ℕ → Content) (k p : ℕ) → ((q : ℕ) → list_all P (parties_of_content (says q)) ≡ true) → list_all P (flat_map parties_of_content (each_before k says p)) ≡ true
each-named P says zero p h = refl
each-named P says (suc k) p h = each-named-if P says k p (leb (k + 2) p) h (each-named P says k p h)

two-named : (f clients i q c : ℕ) → is_party f clients (Client c) ≡ true → list_all (is_party f clients) (Replica (at_position_of f i q) ∷ Client c ∷ []) ≡ true
two-named f clients i q c e =
    ap (λ (b : Bool). b && (is_party f clients (Client c) && true)) (position-is f clients i q) ∙ ap (λ (b : Bool). b && true) e

front-named : (P : Party → Bool) (i : ℕ) (m : Request) (b : Bool) (xs : List Content) → P (Client m.client) ≡ true → list_all P (flat_map parties_of_content xs) ≡ true
    → list_all P (flat_map parties_of_content (cond b (asked i m ∷ xs) xs)) ≡ true
front-named P i m true xs e h = ap (λ (b : Bool). b && (b && list_all P (flat_map parties_of_content xs))) e ∙ h
front-named P i m false xs e h = h

chain-named : (f clients : ℕ) (me : Party) (i : ℕ) (m : Request) (n : ℕ) (d : List ℕ) (reply : Option (ArrayVec ℕ)) → is_party f clients (Client m.client) ≡ true
    → list_all (is_party f clients) (flat_map parties_of_content (chain_claims f me i m n d reply)) ≡ true
chain-named f clients (Replica r) i m n d reply e =
    front-named (is_party f clients) i m (leb (position_in f i r) (f + 1)) (each_before (f + 1) (tag_of_position f i m n d) (position_in f i r)) e
    (each-named (is_party f clients) (tag_of_position f i m n d) (f + 1) (position_in f i r) (λ q. two-named f clients i q m.client e))
chain-named f clients (Client c) i m n d None e = refl
chain-named f clients (Client c) i m n d (Some reply) e =
    each-named (is_party f clients) _ (f + 1) (3 * f + 2) (λ q. two-named f clients i q m.client e)

pub chain-names : (f clients : ℕ) (me : Party) (i : ℕ) (m : Request) (n : ℕ) (d : List ℕ) (reply : Option (ArrayVec ℕ)) (tags : List TagBetween)
    → list_all (is_party f clients) (parties_of f me (msg.Chain i m n d reply tags)) ≡ is_party f clients (Client m.client)
chain-names f clients me i m n d reply tags =
    list_all-append (is_party f clients) (flat_map parties_of_content (chain_claims f me i m n d reply)) (Client m.client ∷ [])
    ∙ ap (λ (b : Bool). list_all (is_party f clients) (flat_map parties_of_content (chain_claims f me i m n d reply)) && b) (and-true (is_party f clients (Client m.client)))
    ∙ implied _ (is_party f clients (Client m.client)) (chain-named f clients me i m n d reply)
