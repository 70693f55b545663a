-- A tagged draft is a message of the grammar.
use Rattle.std.proofs.Common.{◌≡◌, ℕ, zero, suc, ◌+◌, ◌-◌, ◌*◌, ◌<◌, ◌≤◌, Bool, true, false, ◌||◌, cond, eqb, ltb, IsTrue, List, [], ◌∷◌, ◌++◌, map, length, get_or, replicate, unwrap_or, Option, Some, None, refl, sym, ap, ◌∙◌, arith, add-one, length-append, All}
use Rattle.std.specs.List.{filter, list_any, range_with_len}
use Rattle.std.specs.Option.{option_map}
use Rattle.std.proofs.lemmas.Bool.{false≢true, ltb-true}
use Rattle.std.proofs.lemmas.List.Elements.{All-append, All-cons, All-map}
use Rattle.std.proofs.lemmas.List.FromFn.{length-map-range_with_len}
use Rattle.arrayvec.specs.ArrayVec.{ArrayVec}
use Rattle.ab_hist.specs.declared.request.Request.{Request}
use Rattle.ab_form.specs.Lists.{AreCounted}
use Rattle.ab_msg.specs.declared.message.Out.{Out}
use Rattle.ab_write.proofs.ShortLemmas.{short-message}
use Rattle.ab_keys.specs.Keys.{is_party}
use Rattle.std.proofs.lemmas.Bool.Decides.{Decides-eqb}
use Rattle.ab_num.specs.declared.party.Party.{Party}
use Rattle.ab_num.specs.declared.party.Party.TheVariants.{Replica, Client}
use Rattle.ab_num.specs.declared.plan.Kind.{Kind}
use Rattle.ab_num.specs.declared.plan.Kind.TheVariants.{Quorum, ZLight, Chain, Backup, ZCert}
use Rattle.ab_num.specs.Bounds.{IsInBounds}
use Rattle.ab_num.specs.Places.{kind_of, replicas_of, at_position_of, position_in}
use Rattle.ab_mac.specs.Tags.{hmac}
use Rattle.ab_mac.proofs.Sha256Lemmas.{length-sha256}
use Rattle.ab_form.specs.Formats.{EachFits}
use Rattle.ab_keys.specs.Rings.{tag_to, key_to, Peer, Ring, peer_in}
use Rattle.ab_msg.specs.declared.content.Content.TheVariants.{ChainTag}
use Rattle.ab_msg.specs.declared.message.Msg.{Msg}
use Rattle.ab_msg.specs.declared.message.Msg.TheVariants as msg
use Rattle.ab_msg.specs.Claims.{instance_of}
use Rattle.ab_msg.specs.declared.chain_tags.TagBetween.{TagBetween}
use Rattle.ab_msg.specs.Fields.{IsBetween, IsParty, IsTag, above, AreTags}
use Rattle.ab_msg.specs.Contents.{spell_content}
use Rattle.ab_msg.specs.Messages.{HasFewChanges, IsDraft, IsMessage}
use Rattle.ab_seal.specs.Receivers.{is_in_front, is_receiver}
use Rattle.ab_seal.specs.Sealing.{answer_tags, forward_tags, own_tags, reach_of, sealed, tag_for, tag_made, tags_at, tags_made, tagged}

-- ---- tags have 32 bytes

length-tag : (kept : Option Peer) (text : List ℕ) → length (unwrap_or (option_map (λ key. hmac key text) (option_map (λ (x : Peer). x.to) kept)) (replicate 32 0)) ≡ 32
unfolding hmac
length-tag (Some peer) text = length-sha256 _
length-tag None text = refl

pub length-tag_made : (ring : Ring) (to : Party) (text : List ℕ) → length (tag_made ring to text) ≡ 32
unfolding tag_to key_to
length-tag_made ring to text = length-tag (peer_in ring.peers to) text

-- ---- the receivers ascend

one-fits : (t : ℕ → List ℕ) (b : Bool) (a low : ℕ) (rest : List ℕ) → IsTag low (a, t a) → EachFits IsTag above (suc a) (map (λ r. (r, t r)) rest)
    → EachFits IsTag above low (map (λ r. (r, t r)) rest) → EachFits IsTag above low (map (λ r. (r, t r)) (cond b (a ∷ rest) rest))
one-fits t true a low rest fits behind without = (fits, behind)
one-fits t false a low rest fits behind without = without

tags-fit : (t : ℕ → List ℕ) → ((r : ℕ) → length (t r) ≡ 32) → (test : ℕ → Bool) (n a low : ℕ) → low ≤ a → a + n ≤ 7
    → EachFits IsTag above low (map (λ r. (r, t r)) (filter test (range_with_len a n)))
tags-fit t long test zero a low le few = tt
tags-fit t long test (suc n) a low le few =
    one-fits t (test a) a low (filter test (range_with_len (a + 1) n)) ((le, omega arith), long a)
    (tags-fit t long test n (a + 1) (suc a) (omega arith) (omega arith)) (tags-fit t long test n (a + 1) low (omega arith) (omega arith))

one-counted : {A : Type 0} (g : ℕ → A) (b : Bool) (a n : ℕ) (rest : List ℕ) → length (map g rest) ≤ n → length (map g (cond b (a ∷ rest) rest)) ≤ suc n
one-counted g true a n rest le = omega arith
one-counted g false a n rest le = omega arith

few-picked : {A : Type 0} (g : ℕ → A) (test : ℕ → Bool) (n a : ℕ) → length (map g (filter test (range_with_len a n))) ≤ n
few-picked g test zero a = omega arith
few-picked g test (suc n) a = one-counted g (test a) a n (filter test (range_with_len (a + 1) n)) (few-picked g test n (a + 1))

one-there : {A : Type 0} (g : ℕ → A) (b : Bool) (a : ℕ) (rest : List ℕ) → (b ≡ false → 1 ≤ length (map g rest)) → 1 ≤ length (map g (cond b (a ∷ rest) rest))
one-there g true a rest h = omega arith
one-there g false a rest h = h refl

some-picked : {A : Type 0} (g : ℕ → A) (test : ℕ → Bool) (n a r : ℕ) → a ≤ r → r < a + n → test r ≡ true → 1 ≤ length (map g (filter test (range_with_len a n)))
some-picked g test zero a r le lt passes = absurd (omega arith)
some-picked g test (suc n) a r le lt passes =
    one-there g (test a) a (filter test (range_with_len (a + 1) n))
    (λ fails. some-picked g test n (a + 1) r (let other : a ≡ r → ⊥ = λ e. false≢true (sym fails ∙ ap test e ∙ passes) in omega arith) (omega arith) passes)

-- ---- the first of the chain receives, and in every other kind all do

first-in_front : (f instance : ℕ) → is_in_front f instance (at_position_of f instance 1) ≡ true
first-in_front f instance =
    ap (λ n. list_any (λ p. eqb (at_position_of f instance p) (at_position_of f instance 1)) (range_with_len 1 n)) (add-one f)
    ∙ ap (λ b. b || list_any (λ p. eqb (at_position_of f instance p) (at_position_of f instance 1)) (range_with_len 2 f)) ((Decides-eqb (at_position_of f instance 1) (at_position_of f instance 1)).1 refl)

first-receives : (k : Kind) (f instance : ℕ) → is_receiver k f instance (at_position_of f instance 1) ≡ true
first-receives Quorum f instance = refl
first-receives ZLight f instance = refl
first-receives Chain f instance = first-in_front f instance
first-receives Backup f instance = refl
first-receives ZCert f instance = refl

abbrev pair_for : Ring → List ℕ → ℕ → ℕ × List ℕ
pair_for ring text r = (r, tag_made ring (Replica r) text)

tags_made-fit : (ring : Ring) (instance : ℕ) (text : List ℕ) → 1 ≤ ring.f → ring.f ≤ 2 → AreTags (tags_made ring instance text)
tags_made-fit ring instance text some few =
    let t = λ (r : ℕ). tag_made ring (Replica r) text in
    let g = pair_for ring text in
    let test = is_receiver (kind_of ring.plan instance) ring.f instance in (
      (
        some-picked g test (replicas_of ring.f) 0 (at_position_of ring.f instance 1) (omega arith) (omega arith) (first-receives (kind_of ring.plan instance) ring.f instance),
        (let le = few-picked g test (replicas_of ring.f) 0 in omega (arith, le)),
      ),
      tags-fit t (λ r. length-tag_made ring (Replica r) text) test (replicas_of ring.f) 0 0 (omega arith) (omega arith),
    )

-- ---- along a chain

-- a tag of a replica for a party
between-fits : (ring : Ring) (text : List ℕ) (to : Party) → IsParty ring.me → IsParty to → IsBetween (tag_for ring text to)
between-fits ring text to by goes = (by, (goes, length-tag_made ring to text))

position-fits : (f i q : ℕ) → f ≤ 2 → IsParty (Replica (at_position_of f i q))
position-fits f i q few =
    let below : at_position_of f i q < replicas_of f = (let n : 0 < replicas_of f = omega arith in omega arith) in
    (omega arith, omega arith)

forward-fits : (ring : Ring) (i : ℕ) (text : List ℕ) (p : ℕ) → ring.f ≤ 2 → IsParty ring.me → All IsBetween (forward_tags ring i text p)
forward-fits ring i text p few by =
    All-map IsBetween (λ q. tag_for ring text (Replica (at_position_of ring.f i q))) (range_with_len (p + 1) (reach_of ring.f p))
    (λ k q lt. between-fits ring text (Replica (at_position_of ring.f i (get_or (range_with_len (p + 1) (reach_of ring.f p)) k q))) by (position-fits ring.f i _ few))

pub length-forward : (ring : Ring) (i : ℕ) (text : List ℕ) (p : ℕ) → length (forward_tags ring i text p) ≡ reach_of ring.f p
length-forward ring i text p = length-map-range_with_len (λ q. tag_for ring text (Replica (at_position_of ring.f i q))) (p + 1) (reach_of ring.f p)

none-fit : All IsBetween []
none-fit = λ k d lt. absurd (omega (arith, lt))

one-or-none : (ring : Ring) (text : List ℕ) (to : Party) (b : Bool) → IsParty ring.me → IsParty to → All IsBetween (cond b (tag_for ring text to ∷ []) [])
one-or-none ring text to true by goes = All-cons IsBetween (tag_for ring text to) [] (between-fits ring text to by goes) none-fit
one-or-none ring text to false by goes = none-fit

answer-fits : (ring : Ring) (i : ℕ) (m : Request) (n : ℕ) (d : List ℕ) (reply : Option (ArrayVec ℕ)) (r p : ℕ) → IsParty ring.me → IsParty (Client m.client)
    → All IsBetween (answer_tags ring i m n d reply r p)
answer-fits ring i m n d None r p by goes = none-fit
answer-fits ring i m n d (Some reply) r p by goes = one-or-none ring _ (Client m.client) (ltb (2 * ring.f) p) by goes

few-with : {A : Type 0} (b : Bool) (reach f p : ℕ) (x : A) → b ≡ ltb (2 * f) p → f ≤ 2 → reach ≤ f + 1 → reach ≤ 3 * f + 1 - p → reach + length (cond b (x ∷ []) []) ≤ 3
few-with true reach f p x e few near far = omega (arith, ltb-true (2 * f) p (sym e))
few-with false reach f p x e few near far = omega arith

few-tags : (ring : Ring) (i : ℕ) (m : Request) (n : ℕ) (d : List ℕ) (reply : Option (ArrayVec ℕ)) (r p : ℕ) → ring.f ≤ 2 → reach_of ring.f p + length (answer_tags ring i m n d reply r p) ≤ 3
few-tags ring i m n d None r p few = omega arith
few-tags ring i m n d (Some reply) r p few = few-with (ltb (2 * ring.f) p) (reach_of ring.f p) ring.f p _ refl few (omega arith) (omega arith)

pub few-at : (ring : Ring) (i : ℕ) (m : Request) (n : ℕ) (d : List ℕ) (reply : Option (ArrayVec ℕ)) (r p : ℕ) → ring.f ≤ 2 → length (tags_at ring i m n d reply r p) ≤ 3
few-at ring i m n d reply r p few =
    let text = spell_content (ChainTag (Replica r) i m.client m.stamp n d) in
    omega (arith, length-append (forward_tags ring i text p) (answer_tags ring i m n d reply r p), length-forward ring i text p, few-tags ring i m n d reply r p few)

-- at most three tags, for parties of the grammar
abbrev pub AreOwn : List TagBetween → Type 0
AreOwn tags = (length tags ≤ 3) × All IsBetween tags

at-own : (ring : Ring) (i : ℕ) (m : Request) (n : ℕ) (d : List ℕ) (reply : Option (ArrayVec ℕ)) (r p : ℕ) → ring.f ≤ 2 → IsParty ring.me → IsParty (Client m.client)
    → AreOwn (tags_at ring i m n d reply r p)
at-own ring i m n d reply r p few by goes =
    let text = spell_content (ChainTag (Replica r) i m.client m.stamp n d) in
    let ahead = forward_tags ring i text p in
    let behind = answer_tags ring i m n d reply r p in (
      few-at ring i m n d reply r p few,
      All-append IsBetween ahead behind (forward-fits ring i text p few by) (answer-fits ring i m n d reply r p by goes),
    )

pub own-fits : (ring : Ring) (me : Party) (i : ℕ) (m : Request) (n : ℕ) (d : List ℕ) (reply : Option (ArrayVec ℕ)) → ring.f ≤ 2 → IsParty ring.me → IsParty (Client m.client)
    → AreOwn (own_tags ring me i m n d reply)
own-fits ring (Replica r) i m n d reply few by goes = at-own ring i m n d reply r (position_in ring.f i r) few by goes
own-fits ring (Client c) i m n d reply few by goes = (omega arith, none-fit)

-- a party of a cluster is one of the grammar
pub party-fits : (f clients : ℕ) (p : Party) → f ≤ 2 → clients ≤ 16 → IsTrue (is_party f clients p) → IsParty p
party-fits f clients (Replica r) few many h = (omega arith, omega (arith, ltb-true r (3 * f + 1) h))
party-fits f clients (Client c) few many h = (omega arith, omega (arith, ltb-true c clients h))

behind-fits : (tags own : List TagBetween) → AreCounted 0 61 IsBetween tags → AreOwn own → AreCounted 0 64 IsBetween (tags ++ own)
behind-fits tags own h mine = ((omega arith, omega (arith, length-append tags own, h.0.1, mine.0)), All-append IsBetween tags own h.1 mine.1)

pub tagged-message : (ring : Ring) (to : Party) (m : Msg) → IsInBounds ring.f ring.clients → IsTrue (is_party ring.f ring.clients ring.me) → IsDraft m → IsMessage (tagged ring to m)
tagged-message ring to (msg.Req content tags) bounds me h = (h, tags_made-fit ring (instance_of content) (spell_content content) bounds.some_faulty bounds.few_faulty)
tagged-message ring to (msg.Order content client_tag tag) bounds me h = (h.0, (h.1, length-tag_made ring to (spell_content content)))
tagged-message ring to (msg.Resp content tag) bounds me h = (h, length-tag_made ring to (spell_content content))
tagged-message ring to (msg.Chain i m n d reply tags) bounds me h =
    let by = party-fits ring.f ring.clients ring.me bounds.few_faulty bounds.few_clients me in
    let own = own-fits ring ring.me i m n d reply bounds.few_faulty by h.1.0.0 in
    (h.0, (h.1.0, (h.1.1.0, (h.1.1.1.0, (h.1.1.1.1.0, behind-fits tags (own_tags ring ring.me i m n d reply) h.1.1.1.1.1 own)))))
tagged-message ring to (msg.Panic content tag) bounds me h = (h, length-tag_made ring to (spell_content content))
tagged-message ring to (msg.Abort abort) bounds me h = h
tagged-message ring to (msg.Init cert) bounds me h = h
tagged-message ring to (msg.PrePrepare content tag offer) bounds me h = ((h.0, length-tag_made ring to (spell_content content)), h.1)
tagged-message ring to (msg.Prepare prepare) bounds me h = h
tagged-message ring to (msg.Commit content tag) bounds me h = (h, length-tag_made ring to (spell_content content))
tagged-message ring to (msg.ViewChange change) bounds me h = h
tagged-message ring to (msg.NewView content tag changes) bounds me h = (h.0, (length-tag_made ring to (spell_content content), ((h.1.0.0, omega (arith, h.1.0.1)), h.1.1)))
tagged-message ring to (msg.Checkpoint content tag) bounds me h = (h, length-tag_made ring to (spell_content content))
tagged-message ring to (msg.LocalCommit content tag) bounds me h = (h, length-tag_made ring to (spell_content content))
tagged-message ring to (msg.Spec spec) bounds me h = h
tagged-message ring to (msg.Cert i zcert) bounds me h = h

tagged-few : (ring : Ring) (to : Party) (m : Msg) → IsDraft m → HasFewChanges (tagged ring to m)
tagged-few ring to (msg.Req content tags) h = tt
tagged-few ring to (msg.Order content client_tag tag) h = tt
tagged-few ring to (msg.Resp content tag) h = tt
tagged-few ring to (msg.Chain i m n d reply tags) h = tt
tagged-few ring to (msg.Panic content tag) h = tt
tagged-few ring to (msg.Abort abort) h = tt
tagged-few ring to (msg.Init cert) h = tt
tagged-few ring to (msg.PrePrepare content tag offer) h = tt
tagged-few ring to (msg.Prepare prepare) h = tt
tagged-few ring to (msg.Commit content tag) h = tt
tagged-few ring to (msg.ViewChange change) h = tt
tagged-few ring to (msg.NewView content tag changes) h = h.1.0.1
tagged-few ring to (msg.Checkpoint content tag) h = tt
tagged-few ring to (msg.LocalCommit content tag) h = tt
tagged-few ring to (msg.Spec spec) h = tt
tagged-few ring to (msg.Cert i zcert) h = tt

pub length-sealed : (ring : Ring) (o : Out) → IsInBounds ring.f ring.clients → IsTrue (is_party ring.f ring.clients ring.me) → IsDraft o.msg → length (sealed ring o) ≤ 4194304
length-sealed ring o bounds me draft = short-message (tagged ring o.to o.msg) (tagged-message ring o.to o.msg bounds me draft) (tagged-few ring o.to o.msg draft)
