-- What is sealed passes the checks of its receiver.
use Rattle.std.proofs.Common.{◌≡◌, ℕ, zero, suc, ◌+◌, ◌-◌, ◌*◌, ◌≤◌, ◌<◌, leb, eqb, ltb, cond, not, Bool, true, false, IsTrue, List, [], ◌∷◌, ◌++◌, map, length, get_or, replicate, unwrap_or, All, Option, None, Some, refl, sym, ap, ◌∙◌, arith}
use Rattle.std.specs.List.{Contains, range_with_len}
use Rattle.std.proofs.lemmas.Bool.{false≢true, lt-ltb, ltb-true, not_from_false}
use Rattle.std.proofs.lemmas.Bool.Decides.{Decides-eqb}
use Rattle.std.proofs.lemmas.List.Elements.{All-append, All-cons, All-map}
use Rattle.std.proofs.lemmas.Slice.Eq.{bytes_eq-Decides}
use Rattle.arrayvec.specs.ArrayVec.{ArrayVec}
use Rattle.ab_num.specs.declared.party.Party.{Party}
use Rattle.ab_num.specs.declared.party.Party.TheVariants.{Replica, Client}
use Rattle.ab_num.specs.declared.plan.Plan.{Plan}
use Rattle.ab_num.specs.Bounds.{IsInBounds}
use Rattle.ab_num.specs.Parties.{party_eq}
use Rattle.ab_num.specs.Places.{at_position_of, position_in}
use Rattle.ab_hist.specs.declared.request.Request.{Request}
use Rattle.ab_keys.specs.Keys.{is_party, exchanges}
use Rattle.ab_keys.specs.Rings.{Ring, ring_of, tag_from}
use Rattle.ab_keys.specs.Tags.{is_tag, is_tag_from}
use Rattle.ab_keys.proofs.RingLemmas.{tag_is_there, tags_agree}
use Rattle.ab_msg.specs.declared.chain_tags.TagBetween.{TagBetween}
use Rattle.ab_msg.specs.declared.content.Content.{Content}
use Rattle.ab_msg.specs.declared.content.Content.TheVariants.{Resp, ChainTag}
use Rattle.ab_msg.specs.declared.message.Msg.{Msg}
use Rattle.ab_msg.specs.declared.message.Msg.TheVariants as msg
use Rattle.ab_msg.specs.Carried.{goes_to}
use Rattle.ab_msg.specs.Claims.{asked, chain_claims, each_before, instance_of, maker_of, ordered, tag_of_position}
use Rattle.ab_msg.specs.Contents.{spell_content}
use Rattle.ab_wire.specs.Inside.{tag_in}
use Rattle.ab_check.specs.Checks.{Check, Judge, all_checks, by_tag, checks_of, is_right, offer_checks, tag_between, tagged as checked_tag}
use Rattle.ab_seal.specs.Receivers.{receivers}
use Rattle.ab_seal.specs.Carried.{IsFor, carried_checks, of_others}
use Rattle.ab_seal.specs.Sealing.{IsOwn, answer_tags, content_tag, forward_tags, own_tags, reach_of, tag_for, tag_made, tagged}
use Rattle.ab_seal.proofs.PassedLemmas.{each-before, for-client, found-first, found-later, in-forward, kept, mapped, missing, not-forward, there}
use Rattle.ab_seal.proofs.PlaceLemmas.{at-place, only-place}

-- two parties of a cluster that exchange tags, with the rings of one seed, and one who judges tags by the ring of the second
pub record AreMet (f clients : ℕ) (plan : Plan) (seed : List ℕ) (a b : Party) (judge : Judge) : Type 0 where
  pub bounds : IsInBounds f clients
  pub maker : IsTrue (is_party f clients a)
  pub taker : IsTrue (is_party f clients b)
  pub exchange : IsTrue (exchanges a b)
  pub tags : (maker : Party) (text : List ℕ) (tag : Option (List ℕ)) → judge maker text (by_tag tag) ≡ is_tag_from (ring_of f clients plan seed b) maker text tag

-- ---- one tag

same-tag : (right tag : Option (List ℕ)) (t : List ℕ) → right ≡ there t → tag ≡ there t → is_tag right tag ≡ true
same-tag right tag t e g = ap (λ r. is_tag r tag) e ∙ ap (is_tag (Some t)) g ∙ (bytes_eq-Decides t t).1 refl

-- the tag that a makes for b is the one that b wants from a
agreed : (f clients : ℕ) (plan : Plan) (seed text : List ℕ) (a b : Party) → IsTrue (is_party f clients a) → IsTrue (is_party f clients b) → IsTrue (exchanges a b)
    → tag_from (ring_of f clients plan seed b) a text ≡ there (tag_made (ring_of f clients plan seed a) b text)
agreed f clients plan seed text a b a_in b_in exchange =
    let found = tag_is_there f clients plan seed text a b b_in exchange in
    sym (tags_agree f clients plan seed text a b a_in b_in) ∙ found ∙ ap (λ o. Some (unwrap_or o (replicate 32 0))) (sym found)

made-right : (f clients : ℕ) (plan : Plan) (seed : List ℕ) (a b : Party) (judge : Judge) → AreMet f clients plan seed a b judge
    → (c : Content) (tag : Option (List ℕ)) → maker_of c ≡ a → tag ≡ there (content_tag (ring_of f clients plan seed a) b c) → is_right judge (checked_tag c tag) ≡ true
made-right f clients plan seed a b judge met c tag by is =
    let text = spell_content c in
    let of_b = ring_of f clients plan seed b in
    let wanted : tag_from of_b (maker_of c) text ≡ there (tag_made (ring_of f clients plan seed a) b text)
    = ap (λ p. tag_from of_b p text) by ∙ agreed f clients plan seed text a b met.maker met.taker met.exchange in
    met.tags (maker_of c) text tag ∙ same-tag (tag_from of_b (maker_of c) text) tag (tag_made (ring_of f clients plan seed a) b text) wanted is

-- ---- the tags of a request

tag_in-first : (t : ℕ → List ℕ) (x r : ℕ) (rs : List ℕ) (rest : Option (List ℕ)) (b : Bool) → eqb x r ≡ b → (k : ℕ) → k < length (x ∷ rs) → get_or (x ∷ rs) k r ≡ r
    → (Contains rs r → rest ≡ there (t r)) → cond b (Some (t x)) rest ≡ there (t r)
tag_in-first t x r rs rest true e k lt is more = ap (λ n. Some (t n)) ((Decides-eqb x r).0 e)
tag_in-first t x r rs rest false e zero lt is more = absurd (false≢true (sym e ∙ (Decides-eqb x r).1 is))
tag_in-first t x r rs rest false e (suc k) lt is more = more (k, omega arith, is)

tag_in-each : (t : ℕ → List ℕ) (rs : List ℕ) (r : ℕ) → Contains rs r → tag_in r (map (λ n. (n, t n)) rs) ≡ there (t r)
tag_in-each t [] r h = absurd (omega (arith, h.1))
tag_in-each t (x ∷ rs) r h = tag_in-first t x r rs (tag_in r (map (λ n. (n, t n)) rs)) (eqb x r) refl h.0 h.1 h.2 (tag_in-each t rs r)

-- ---- along a chain

no-tag : (right : Option (List ℕ)) → is_tag right None ≡ false
no-tag None = refl
no-tag (Some tag) = refl

-- a tag that came counts as before
unchanged : (f clients : ℕ) (plan : Plan) (seed : List ℕ) (a b : Party) (judge : Judge) → AreMet f clients plan seed a b judge
    → (c : Content) (came own : List TagBetween) (o : Option (List ℕ)) → tag_between (maker_of c) b came ≡ o
    → is_right judge (checked_tag c (tag_between (maker_of c) b came)) ≡ true → is_right judge (checked_tag c (tag_between (maker_of c) b (came ++ own))) ≡ true
unchanged f clients plan seed a b judge met c came own None e h =
    let none : is_right judge (checked_tag c None) ≡ true = ap (λ (x : Option (List ℕ)). is_right judge (checked_tag c x)) (sym e) ∙ h in
    absurd (false≢true (sym (met.tags (maker_of c) (spell_content c) None ∙ no-tag (tag_from (ring_of f clients plan seed b) (maker_of c) (spell_content c))) ∙ none))
unchanged f clients plan seed a b judge met c came own (Some tag) e h =
    ap (λ (x : Option (List ℕ)). is_right judge (checked_tag c x)) (found-first (maker_of c) b came own tag e ∙ sym e) ∙ h

-- a later position is among those that have a tag
ahead-is-there : (ring : Ring) (r s i : ℕ) (text : List ℕ) (q j : ℕ) → 1 ≤ ring.f → ring.f ≤ 2 → s < 3 * ring.f + 1 → j < ring.f + 1 → j + 2 ≤ position_in ring.f i s
    → q ≡ position_in ring.f i s - (j + 1) → tag_between ring.me (Replica s) (forward_tags ring i text q) ≡ there (tag_made ring (Replica s) text)
ahead-is-there ring r s i text q j some few lt near back is =
    let place = at-place ring.f i s some few lt in
    let high = place.2 in
    let at : at_position_of ring.f i (q + 1 + j) ≡ s = ap (at_position_of ring.f i) (let e : q + 1 + j ≡ position_in ring.f i s = omega arith in e) ∙ place.0 in
    in-forward ring text (at_position_of ring.f i) s (reach_of ring.f q) (q + 1) j (omega arith) at

replica-eq : (x r : ℕ) → party_eq (Replica x) (Replica r) ≡ true → x ≡ r
replica-eq x r e = (Decides-eqb x r).0 e

-- what b wants of a in a chain, a adds
abbrev Adds : Ring → Party → Party → List TagBetween → Content → Type 0
Adds ring a b own c = party_eq (maker_of c) a ≡ true → (maker_of c ≡ a) × (tag_between (maker_of c) b own ≡ there (content_tag ring b c))

adds-ahead : (ring : Ring) (r s i : ℕ) (m : Request) (n : ℕ) (d : List ℕ) (reply : Option (ArrayVec ℕ)) (j : ℕ) → ring.me ≡ Replica r → 1 ≤ ring.f → ring.f ≤ 2 → s < 3 * ring.f + 1
    → j < ring.f + 1 → j + 2 ≤ position_in ring.f i s
    → Adds ring (Replica r) (Replica s) (own_tags ring (Replica r) i m n d reply) (tag_of_position ring.f i m n d (position_in ring.f i s - (j + 1)))
adds-ahead ring r s i m n d reply j mine some few lt near back same =
    let f = ring.f in
    let q = position_in f i s - (j + 1) in
    let high = (at-place f i s some few lt).2 in
    let at : at_position_of f i q ≡ r = replica-eq (at_position_of f i q) r same in
    let p : position_in f i r ≡ q = only-place f i q r some few (omega arith) (omega arith) at in
    let said : ℕ → List ℕ = λ x. spell_content (ChainTag (Replica x) i m.client m.stamp n d) in
    let behind = answer_tags ring i m n d reply r (position_in f i r) in
    let ahead = ahead-is-there ring r s i (said r) (position_in f i r) j some few lt near back p in
    let by : Replica (at_position_of f i q) ≡ Replica r = ap Replica at in (
      by,
      ap (λ (w : Party). tag_between w (Replica s) (own_tags ring (Replica r) i m n d reply)) (by ∙ sym mine)
          ∙ found-first ring.me (Replica s) (forward_tags ring i (said r) (position_in f i r)) behind (tag_made ring (Replica s) (said r)) ahead
          ∙ ap (λ x. there (tag_made ring (Replica s) (said x))) (sym at),
    )

adds-asked : (ring : Ring) (r i : ℕ) (m : Request) (b : Party) (own : List TagBetween) → Adds ring (Replica r) b own (asked i m)
adds-asked ring r i m b own same = absurd (false≢true same)

in-front : (P : Content → Type 0) (t : Bool) (x : Content) (xs : List Content) → P x → All P xs → All P (cond t (x ∷ xs) xs)
in-front P true x xs h rest = All-cons P x xs h rest
in-front P false x xs h rest = rest

adds-answer : (ring : Ring) (r x i : ℕ) (m : Request) (n : ℕ) (d : List ℕ) (reply : ArrayVec ℕ) (j : ℕ) → ring.me ≡ Replica r → 1 ≤ ring.f → ring.f ≤ 2 → eqb m.client x ≡ true → j < ring.f + 1
    → Adds ring (Replica r) (Client x) (own_tags ring (Replica r) i m n d (Some reply)) (Resp (Replica (at_position_of ring.f i (3 * ring.f + 2 - (j + 1)))) i m.client m.stamp n d reply)
adds-answer ring r x i m n d reply j mine some few goes near same =
    let f = ring.f in
    let q = 3 * f + 2 - (j + 1) in
    let at : at_position_of f i q ≡ r = replica-eq (at_position_of f i q) r same in
    let p : position_in f i r ≡ q = only-place f i q r some few (omega arith) (omega arith) at in
    let late : ltb (2 * f) (position_in f i r) ≡ true = lt-ltb (2 * f) (position_in f i r) (omega arith) in
    let said : ℕ → List ℕ = λ y. spell_content (Resp (Replica y) i m.client m.stamp n d reply) in
    let passed = spell_content (ChainTag (Replica r) i m.client m.stamp n d) in
    let mine_for : List TagBetween = tag_for ring (said r) (Client m.client) ∷ [] in
    let ahead = forward_tags ring i passed (position_in f i r) in
    let by : Replica (at_position_of f i q) ≡ Replica r = ap Replica at in (
      by,
      ap (λ (w : Party). tag_between w (Client x) (own_tags ring (Replica r) i m n d (Some reply))) (by ∙ sym mine)
          ∙ found-later ring.me (Client x) ahead (answer_tags ring i m n d (Some reply) r (position_in f i r)) (not-forward ring passed (at_position_of f i) x (range_with_len (position_in f i r + 1) (reach_of f (position_in f i r))))
          ∙ ap (λ t. tag_between ring.me (Client x) (cond t mine_for [])) late
          ∙ for-client ring (said r) m.client x goes
          ∙ ap (λ y. there (tag_made ring (Client x) (said y))) (sym at),
    )

no-claims : (P : Content → Type 0) → All P []
no-claims P = λ k d lt. absurd (omega (arith, lt))

-- of each claim that b checks in a chain
adds-each : (ring : Ring) (r : ℕ) (b : Party) (i : ℕ) (m : Request) (n : ℕ) (d : List ℕ) (reply : Option (ArrayVec ℕ)) (clients : ℕ) (tags : List TagBetween)
    → ring.me ≡ Replica r → 1 ≤ ring.f → ring.f ≤ 2 → IsTrue (is_party ring.f clients b) → goes_to (msg.Chain i m n d reply tags) b ≡ true
    → All (Adds ring (Replica r) b (own_tags ring (Replica r) i m n d reply)) (chain_claims ring.f b i m n d reply)
adds-each ring r (Replica s) i m n d reply clients tags mine some few party goes =
    let f = ring.f in
    let lt : s < 3 * f + 1 = ltb-true s (3 * f + 1) party in
    let P = Adds ring (Replica r) (Replica s) (own_tags ring (Replica r) i m n d reply) in
    let p = position_in f i s in
    let rest = each_before (f + 1) (tag_of_position f i m n d) p in
    in-front P (leb p (f + 1)) (asked i m) rest (adds-asked ring r i m (Replica s) (own_tags ring (Replica r) i m n d reply))
    (each-before P (tag_of_position f i m n d) (f + 1) p (λ j near back. adds-ahead ring r s i m n d reply j mine some few lt near back))
adds-each ring r (Client x) i m n d None clients tags mine some few party goes = no-claims _
adds-each ring r (Client x) i m n d (Some reply) clients tags mine some few party goes =
    let f = ring.f in
    let P = Adds ring (Replica r) (Client x) (own_tags ring (Replica r) i m n d (Some reply)) in
    each-before P (λ q. Resp (Replica (at_position_of f i q)) i m.client m.stamp n d reply) (f + 1) (3 * f + 2) (λ j near back. adds-answer ring r x i m n d reply j mine some few goes near)

cases : (b : Bool) (P : Type 0) → (b ≡ true → P) → (b ≡ false → P) → P
cases true P t e = t refl
cases false P t e = e refl

chain-right : (f clients : ℕ) (plan : Plan) (seed : List ℕ) (r : ℕ) (b : Party) (judge : Judge) → AreMet f clients plan seed (Replica r) b judge
    → (i : ℕ) (m : Request) (n : ℕ) (d : List ℕ) (reply : Option (ArrayVec ℕ)) (came : List TagBetween) → goes_to (msg.Chain i m n d reply came) b ≡ true → tag_between (Replica r) b came ≡ missing
    → All (λ k. is_right judge k ≡ true) (of_others (Replica r) (checks_of f b (msg.Chain i m n d reply came)))
    → All (λ k. is_right judge k ≡ true) (checks_of f b (tagged (ring_of f clients plan seed (Replica r)) b (msg.Chain i m n d reply came)))
chain-right f clients plan seed r b judge met i m n d reply came goes none carried =
    let ring = ring_of f clients plan seed (Replica r) in
    let own = own_tags ring (Replica r) i m n d reply in
    let claims = chain_claims f b i m n d reply in
    let Right : Check → Type 0 = λ k. is_right judge k ≡ true in
    let before : Content → Check = λ c. checked_tag c (tag_between (maker_of c) b came) in
    let after : Content → Check = λ c. checked_tag c (tag_between (maker_of c) b (came ++ own)) in
    let Other : Check → Type 0 = λ k. not (party_eq (maker_of k.content) (Replica r)) ≡ true → is_right judge k ≡ true in
    let others : All (λ c. Other (before c)) claims = mapped Other before claims (kept Right (λ k. not (party_eq (maker_of k.content) (Replica r))) (map before claims) carried) in
    let adds = adds-each ring r b i m n d reply clients came refl met.bounds.some_faulty met.bounds.few_faulty met.taker goes in
    All-map Right after claims (λ k c lt.
    let x = get_or claims k c in
    cases (party_eq (maker_of x) (Replica r)) (Right (after x))
    (λ same.
    let add = adds k c lt same in
    let none-came : tag_between (maker_of x) b came ≡ missing = ap (λ w. tag_between w b came) add.0 ∙ none in
    made-right f clients plan seed (Replica r) b judge met x (tag_between (maker_of x) b (came ++ own)) add.0 (found-later (maker_of x) b came own none-came ∙ add.1))
    (λ other. unchanged f clients plan seed (Replica r) b judge met x came own (tag_between (maker_of x) b came) refl (others k c lt (not_from_false _ other))))

-- ---- any message

only : (c : Content) → Contains (c ∷ []) c
only c = (0, omega arith, refl)

abbrev Passes : Judge → Check → Type 0
Passes judge k = is_right judge k ≡ true

first : (judge : Judge) (c : Content) (tag : List ℕ) (ks : List Check) → Passes judge (checked_tag c (Some tag)) → All (λ k. is_right judge k ≡ true) ks
    → All (λ k. is_right judge k ≡ true) (checked_tag c (Some tag) ∷ ks)
first judge c tag ks h rest = All-cons (Passes judge) (checked_tag c (Some tag)) ks h rest

alone : (judge : Judge) (c : Content) (tag : Option (List ℕ)) → Passes judge (checked_tag c tag) → All (λ k. is_right judge k ≡ true) (checked_tag c tag ∷ [])
alone judge c tag h = All-cons (Passes judge) (checked_tag c tag) [] h (λ i d lt. absurd (omega (arith, lt)))

pub sealed-right : (f clients : ℕ) (plan : Plan) (seed : List ℕ) (a b : Party) (judge : Judge) → AreMet f clients plan seed a b judge
    → (m : Msg) → IsOwn f a m → goes_to m b ≡ true → IsFor plan f a b m
    → All (λ k. is_right judge k ≡ true) (carried_checks f a b m) → All (λ k. is_right judge k ≡ true) (checks_of f b (tagged (ring_of f clients plan seed a) b m))
sealed-right f clients plan seed a (Replica r) judge met (msg.Req content tags) own goes is carried =
    let of_a = ring_of f clients plan seed a in
    let found = tag_in-each (λ n. tag_made of_a (Replica n) (spell_content content)) (receivers plan f (instance_of content)) r is in
    alone judge content (tag_in r (map (λ n. (n, tag_made of_a (Replica n) (spell_content content))) (receivers plan f (instance_of content))))
    (made-right f clients plan seed a (Replica r) judge met content _ (own content (only content)) found)
sealed-right f clients plan seed a (Client c) judge met (msg.Req content tags) own goes is carried = absurd is
sealed-right f clients plan seed a b judge met (msg.Order content client_tag tag) own goes is carried =
    All-append (Passes judge) (map (λ c. checked_tag c (Some client_tag)) (ordered content)) (checked_tag content (Some (content_tag (ring_of f clients plan seed a) b content)) ∷ []) carried
    (alone judge content (Some (content_tag (ring_of f clients plan seed a) b content)) (made-right f clients plan seed a b judge met content _ (own content (only content)) refl))
sealed-right f clients plan seed a b judge met (msg.Resp content tag) own goes is carried = alone judge content (Some (content_tag (ring_of f clients plan seed a) b content)) (made-right f clients plan seed a b judge met content _ (own content (only content)) refl)
sealed-right f clients plan seed (Replica r) b judge met (msg.Chain i m n d reply tags) own goes is carried = chain-right f clients plan seed r b judge met i m n d reply tags goes is carried
sealed-right f clients plan seed (Client c) b judge met (msg.Chain i m n d reply tags) own goes is carried = absurd is
sealed-right f clients plan seed a b judge met (msg.Panic content tag) own goes is carried = alone judge content (Some (content_tag (ring_of f clients plan seed a) b content)) (made-right f clients plan seed a b judge met content _ (own content (only content)) refl)
sealed-right f clients plan seed a b judge met (msg.Abort abort) own goes is carried = carried
sealed-right f clients plan seed a b judge met (msg.Init cert) own goes is carried = carried
sealed-right f clients plan seed a b judge met (msg.PrePrepare content tag offer) own goes is carried =
    first judge content (content_tag (ring_of f clients plan seed a) b content) (offer_checks (instance_of content) offer) (made-right f clients plan seed a b judge met content _ (own content (only content)) refl) carried
sealed-right f clients plan seed a b judge met (msg.Prepare prepare) own goes is carried = carried
sealed-right f clients plan seed a b judge met (msg.Commit content tag) own goes is carried = alone judge content (Some (content_tag (ring_of f clients plan seed a) b content)) (made-right f clients plan seed a b judge met content _ (own content (only content)) refl)
sealed-right f clients plan seed a b judge met (msg.ViewChange change) own goes is carried = carried
sealed-right f clients plan seed a b judge met (msg.NewView content tag changes) own goes is carried =
    first judge content (content_tag (ring_of f clients plan seed a) b content) (all_checks changes) (made-right f clients plan seed a b judge met content _ (own content (only content)) refl) carried
sealed-right f clients plan seed a b judge met (msg.Checkpoint content tag) own goes is carried = alone judge content (Some (content_tag (ring_of f clients plan seed a) b content)) (made-right f clients plan seed a b judge met content _ (own content (only content)) refl)
sealed-right f clients plan seed a b judge met (msg.LocalCommit content tag) own goes is carried = alone judge content (Some (content_tag (ring_of f clients plan seed a) b content)) (made-right f clients plan seed a b judge met content _ (own content (only content)) refl)
sealed-right f clients plan seed a b judge met (msg.Spec spec) own goes is carried = carried
sealed-right f clients plan seed a b judge met (msg.Cert i zcert) own goes is carried = carried
