-- What the ring of a seed has for a party.
use Rattle.std.proofs.Common.{◌≡◌, ℕ, zero, suc, ◌+◌, ◌*◌, Bool, true, false, ◌&&◌, ◌||◌, cond, eqb, ltb, IsTrue, List, [], ◌∷◌, ◌++◌, map, Option, Some, None, refl, sym, ◌∙◌, ap, arith, add-one, append_assoc}
use Rattle.std.specs.List.{filter, list_any, range_with_len}
use Rattle.std.specs.Option.{option_map}
use Rattle.std.proofs.lemmas.Bool.{false≢true, true≢false, and_from}
use Rattle.std.proofs.lemmas.Bool.Decides.{nat_tests}
use Rattle.std.proofs.lemmas.List.{map-append}
use Rattle.std.proofs.lemmas.List.Elements.{filter-append}
use Rattle.std.proofs.lemmas.List.Folds.{list_any-append}
use Rattle.std.proofs.lemmas.List.FromFn.{map-range_with_len_more}
use Rattle.std.proofs.Math.Bool.{or-false}
use Rattle.ab_num.specs.declared.party.Party.{Party}
use Rattle.ab_num.specs.declared.party.Party.TheVariants.{Replica, Client}
use Rattle.ab_num.specs.declared.plan.Plan.{Plan}
use Rattle.ab_num.specs.Parties.{party_eq}
use Rattle.ab_num.proofs.PartyLemmas.{same_party}
use Rattle.ab_mac.specs.Tags.{hmac}
use Rattle.ab_keys.specs.Keys.{is_party, exchanges, key_of}
use Rattle.ab_keys.specs.Rings.{Peer, parties, peer_of, peers_of, peer_in, ring_of, key_to, key_from, tag_to, tag_from, exchanges_in}

-- whether a list has the party
abbrev has : List Party → Party → Bool
has ps p = list_any (λ q. party_eq q p) ps

-- one party more, over plain tests: x whether it is taken, y whether it is p, h whether p is among the others
one_more : (of : Party → Peer) (p q : Party) (rest : Option Peer) (x y z h : Bool) → (y ≡ true → q ≡ p) → (q ≡ p → x ≡ z) → rest ≡ cond (h && z) (Some (of p)) None
    → cond x (cond y (Some (of q)) rest) rest ≡ cond ((y || h) && z) (Some (of p)) None
one_more of p q rest true true true h same agrees is = ap (λ r. Some (of r)) (same refl)
one_more of p q rest true true false h same agrees is = absurd (true≢false (agrees (same refl)))
one_more of p q rest true false z h same agrees is = is
one_more of p q rest false true true h same agrees is = absurd (false≢true (agrees (same refl)))
one_more of p q rest false true false true same agrees is = is
one_more of p q rest false true false false same agrees is = is
one_more of p q rest false false z h same agrees is = is

-- how one party more is looked at
looked_at : (of : Party → Peer) (p q : Party) (ps : List Party) (x : Bool)
    → peer_in (map of (cond x (q ∷ ps) ps)) p ≡ cond x (cond (party_eq (of q).party p) (Some (of q)) (peer_in (map of ps) p)) (peer_in (map of ps) p)
looked_at of p q ps true = refl
looked_at of p q ps false = refl

-- of a list of parties, the peer of a party is kept where the list has it and the two exchange tags
peer_in-peers_of : (seed : List ℕ) (me p : Party) (ps : List Party)
    → peer_in (peers_of seed me ps) p ≡ cond (has ps p && exchanges me p) (Some (peer_of seed me p)) None
unfolding peers_of
peer_in-peers_of seed me p [] = refl
peer_in-peers_of seed me p (q ∷ ps) =
    looked_at (peer_of seed me) p q (filter (exchanges me) ps) (exchanges me q)
    ∙ one_more (peer_of seed me) p q (peer_in (peers_of seed me ps) p) (exchanges me q) (party_eq q p) (exchanges me p) (has ps p)
    (same_party q p) (ap (exchanges me)) (peer_in-peers_of seed me p ps)

has-replicas : (n r : ℕ) → has (map Replica (range_with_len 0 n)) (Replica r) ≡ ltb r n
has-replicas zero r = grind (arith, nat_tests)
has-replicas (suc n) r =
    ap (λ k. has (map Replica (range_with_len 0 k)) (Replica r)) (sym (add-one n))
    ∙ ap (λ l. has l (Replica r)) (map-range_with_len_more Replica 0 n n (omega arith))
    ∙ list_any-append (λ q. party_eq q (Replica r)) (map Replica (range_with_len 0 n)) (Replica n ∷ [])
    ∙ ap (λ b. b || (eqb n r || false)) (has-replicas n r)
    ∙ grind (arith, nat_tests)

has-clients : (n c : ℕ) → has (map Client (range_with_len 0 n)) (Client c) ≡ ltb c n
has-clients zero c = grind (arith, nat_tests)
has-clients (suc n) c =
    ap (λ k. has (map Client (range_with_len 0 k)) (Client c)) (sym (add-one n))
    ∙ ap (λ l. has l (Client c)) (map-range_with_len_more Client 0 n n (omega arith))
    ∙ list_any-append (λ q. party_eq q (Client c)) (map Client (range_with_len 0 n)) (Client n ∷ [])
    ∙ ap (λ b. b || (eqb n c || false)) (has-clients n c)
    ∙ grind (arith, nat_tests)

no-client : (c : ℕ) (xs : List ℕ) → has (map Replica xs) (Client c) ≡ false
no-client c [] = refl
no-client c (x ∷ xs) = no-client c xs

no-replica : (r : ℕ) (xs : List ℕ) → has (map Client xs) (Replica r) ≡ false
no-replica r [] = refl
no-replica r (x ∷ xs) = no-replica r xs

has-parties : (f clients : ℕ) (p : Party) → has (parties f clients) p ≡ is_party f clients p
unfolding parties
has-parties f clients (Replica r) =
    list_any-append (λ q. party_eq q (Replica r)) (map Replica (range_with_len 0 (3 * f + 1))) (map Client (range_with_len 0 clients))
    ∙ ap (λ b. b || has (map Client (range_with_len 0 clients)) (Replica r)) (has-replicas (3 * f + 1) r)
    ∙ ap (λ b. ltb r (3 * f + 1) || b) (no-replica r (range_with_len 0 clients))
    ∙ or-false (ltb r (3 * f + 1))
has-parties f clients (Client c) =
    list_any-append (λ q. party_eq q (Client c)) (map Replica (range_with_len 0 (3 * f + 1))) (map Client (range_with_len 0 clients))
    ∙ ap (λ b. b || has (map Client (range_with_len 0 clients)) (Client c)) (no-client c (range_with_len 0 (3 * f + 1)))
    ∙ has-clients clients c

-- the ring of a seed keeps the peer of a party where the two exchange tags in the cluster
peer_in-ring_of : (f clients : ℕ) (seed : List ℕ) (me p : Party)
    → peer_in (peers_of seed me (parties f clients)) p ≡ cond (exchanges_in f clients me p) (Some (peer_of seed me p)) None
peer_in-ring_of f clients seed me p =
    peer_in-peers_of seed me p (parties f clients)
    ∙ ap (λ b. cond (b && exchanges me p) (Some (peer_of seed me p)) None) (has-parties f clients p)

option_map-cond : {X Y : Type 0} (g : X → Y) (x : X) (b : Bool) → option_map g (cond b (Some x) None) ≡ cond b (Some (g x)) None
option_map-cond g x true = refl
option_map-cond g x false = refl

-- the peers of more parties
peers_of-append : (seed : List ℕ) (me : Party) (ps qs : List Party) → peers_of seed me (ps ++ qs) ≡ peers_of seed me ps ++ peers_of seed me qs
unfolding peers_of
peers_of-append seed me ps qs =
    ap (map (peer_of seed me)) (filter-append (exchanges me) ps qs) ∙ map-append (peer_of seed me) (filter (exchanges me) ps) (filter (exchanges me) qs)

pub peers_of-more : (seed : List ℕ) (me : Party) (kind : ℕ → Party) (ps : List Party) (n : ℕ)
    → peers_of seed me (ps ++ map kind (range_with_len 0 (n + 1))) ≡ peers_of seed me (ps ++ map kind (range_with_len 0 n)) ++ peers_of seed me (kind n ∷ [])
peers_of-more seed me kind ps n =
    ap (λ l. peers_of seed me (ps ++ l)) (map-range_with_len_more kind 0 n n (omega arith))
    ∙ ap (peers_of seed me) (sym (append_assoc ps (map kind (range_with_len 0 n)) (kind n ∷ [])))
    ∙ peers_of-append seed me (ps ++ map kind (range_with_len 0 n)) (kind n ∷ [])

pub key_to-ring_of : (f clients : ℕ) (plan : Plan) (seed : List ℕ) (me p : Party)
    → key_to (ring_of f clients plan seed me) p ≡ cond (exchanges_in f clients me p) (Some (key_of seed me p)) None
unfolding key_to
key_to-ring_of f clients plan seed me p =
    ap (option_map (λ x. x.to)) (peer_in-ring_of f clients seed me p) ∙ option_map-cond (λ x. x.to) (peer_of seed me p) (exchanges_in f clients me p)

pub key_from-ring_of : (f clients : ℕ) (plan : Plan) (seed : List ℕ) (me p : Party)
    → key_from (ring_of f clients plan seed me) p ≡ cond (exchanges_in f clients me p) (Some (key_of seed p me)) None
unfolding key_from
key_from-ring_of f clients plan seed me p =
    ap (option_map (λ x. x.from)) (peer_in-ring_of f clients seed me p) ∙ option_map-cond (λ x. x.from) (peer_of seed me p) (exchanges_in f clients me p)

pub tag_to-ring_of : (f clients : ℕ) (plan : Plan) (seed text : List ℕ) (me p : Party)
    → tag_to (ring_of f clients plan seed me) p text ≡ cond (exchanges_in f clients me p) (Some (hmac (key_of seed me p) text)) None
unfolding tag_to
tag_to-ring_of f clients plan seed text me p =
    ap (option_map (λ key. hmac key text)) (key_to-ring_of f clients plan seed me p)
    ∙ option_map-cond (λ key. hmac key text) (key_of seed me p) (exchanges_in f clients me p)

pub tag_from-ring_of : (f clients : ℕ) (plan : Plan) (seed text : List ℕ) (me p : Party)
    → tag_from (ring_of f clients plan seed me) p text ≡ cond (exchanges_in f clients me p) (Some (hmac (key_of seed p me) text)) None
unfolding tag_from
tag_from-ring_of f clients plan seed text me p =
    ap (option_map (λ key. hmac key text)) (key_from-ring_of f clients plan seed me p)
    ∙ option_map-cond (λ key. hmac key text) (key_of seed p me) (exchanges_in f clients me p)

exchanges-comm : (a b : Party) → exchanges a b ≡ exchanges b a
exchanges-comm (Replica r) (Replica s) = grind (arith, nat_tests)
exchanges-comm (Replica r) (Client d) = refl
exchanges-comm (Client c) (Replica s) = refl
exchanges-comm (Client c) (Client d) = refl

-- of two parties of the cluster, each has the other or neither has
exchanges_in-comm : (f clients : ℕ) (a b : Party) → is_party f clients a ≡ true → is_party f clients b ≡ true → exchanges_in f clients a b ≡ exchanges_in f clients b a
exchanges_in-comm f clients a b a_in b_in =
    ap (λ x. x && exchanges a b) (b_in ∙ sym a_in) ∙ ap (λ x. is_party f clients a && x) (exchanges-comm a b)

pub tags_agree : (f clients : ℕ) (plan : Plan) (seed text : List ℕ) (a b : Party) → IsTrue (is_party f clients a) → IsTrue (is_party f clients b)
    → tag_to (ring_of f clients plan seed a) b text ≡ tag_from (ring_of f clients plan seed b) a text
tags_agree f clients plan seed text a b a_in b_in =
    tag_to-ring_of f clients plan seed text a b
    ∙ ap (λ x. cond x (Some (hmac (key_of seed a b) text)) None) (exchanges_in-comm f clients a b a_in b_in)
    ∙ sym (tag_from-ring_of f clients plan seed text b a)

pub tag_is_there : (f clients : ℕ) (plan : Plan) (seed text : List ℕ) (a b : Party) → IsTrue (is_party f clients b) → IsTrue (exchanges a b)
    → tag_to (ring_of f clients plan seed a) b text ≡ Some (hmac (key_of seed a b) text)
tag_is_there f clients plan seed text a b b_in exchange =
    tag_to-ring_of f clients plan seed text a b
    ∙ ap (λ x. cond x (Some (hmac (key_of seed a b) text)) None) (and_from (is_party f clients b) (exchanges a b) b_in exchange)
