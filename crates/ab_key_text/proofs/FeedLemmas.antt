-- No line of a key text has a line feed, so its text has these lines.
use Rattle.std.proofs.Common.{◌≡◌, ℕ, zero, suc, ◌+◌, ◌*◌, ◌<◌, ◌≤◌, List, [], ◌∷◌, ◌++◌, Bool, true, false, Option, None, Some, Ok, IsTrue, codes, decimal, length, map, refl, sym, ap, ◌∙◌, subst, arith, if◌then◌else◌}
use Rattle.std.specs.Prelude.{flat_map, nat_le, ◌&&◌}
use Rattle.std.specs.List.{AllByRecursion, filter, range_with_len}
use Rattle.std.proofs.lemmas.Bool.{leb-true}
use Rattle.std.proofs.lemmas.Bool.Decides.{Decides-ltb}
use Rattle.hex.specs.Hex.{encode_lower}
use Rattle.ab_num.specs.declared.plan.Plan.{Plan}
use Rattle.ab_num.specs.declared.party.Party.{Party}
use Rattle.ab_num.specs.declared.party.Party.TheVariants.{Replica, Client}
use Rattle.ab_num.specs.Bounds.{IsInBounds}
use Rattle.ab_keys.specs.Keys.{exchanges, is_party}
use Rattle.ab_keys.specs.Rings.{Peer, parties}
use Rattle.ab_scheme.specs.Schemes.{public_length}
use Rattle.ab_key_text.specs.declared.version.KeyVersion.{KeyVersion}
use Rattle.ab_key_text.specs.declared.version.KeyVersion.TheVariants.{One, Two, Three}
use Rattle.ab_text.specs.Cores.{party_text, IsParty}
use Rattle.ab_text.specs.Heads.{most_built}
use Rattle.ab_text.specs.Lines.{lines_of}
use Rattle.ab_text.proofs.PartLemmas.{Lacks-append, Lacks-cons, Lacks-decimal}
use Rattle.ab_text.proofs.CoreLemmas.{Lacks-party}
use Rattle.ab_key_text.specs.Keys.{Secret, PartyKeys, IsBytes, IsSecretOf, IsPartyKeys, peers_in}
use Rattle.ab_key_text.specs.Nodes.{AreCommandsOf, IsNodeText, NodeText, command_line, command_lines, is_command, is_printable, node_in, node_lines}
use Rattle.ab_key_text.specs.Reading.{keys_in}
use Rattle.ab_key_text.specs.Spelling.{checkpoint_lines, key_line, keys_line, peer_lines, public_lines, secret_lines, cluster_lines, name_lines, key_lines}
use Rattle.ab_key_text.specs.Versions.{key_version_of}
use Rattle.ab_key_text.proofs.ReadLemmas.{nodes_are_read}
use Rattle.ab_key_text.proofs.RoundLemmas.{few_built, lines_due, spelled_reads}
use Rattle.ab_text.proofs.FeedLemmas.{lines_of-text_of, both, tested, no_feed_in_digits, no_feed_in_plan, no_feed_in_service, no_feed_in_scheme, HasNoFeed, HaveNoFeed}
use Rattle.ab_text.specs.Texts.{text_of}

no_feed_in_key : (word : List ℕ) (p : Party) (n : ℕ) (key : List ℕ) → HasNoFeed word → IsParty p → IsBytes n key → HasNoFeed (key_line word p key)
no_feed_in_key word p n key first small good =
    Lacks-append 10 (word ++ party_text p ++ codes " ") (encode_lower key)
    (Lacks-append 10 (word ++ party_text p) (codes " ") (Lacks-append 10 word (party_text p) first (Lacks-party 10 p (omega arith) small)) (tested (codes " ") refl)) (no_feed_in_digits key good.small)

no_feed_in_secret : (me : Party) (s : Option Secret) → IsSecretOf me s → HaveNoFeed (secret_lines s)
no_feed_in_secret me None good = tt
no_feed_in_secret (Client c) (Some s) good = absurd good
no_feed_in_secret (Replica r) (Some s) good = (
  Lacks-append 10 (codes "secret ") (encode_lower s.id ++ 32 ∷ encode_lower s.seed) (tested (codes "secret ") refl)
      (Lacks-append 10 (encode_lower s.id) (32 ∷ encode_lower s.seed) (no_feed_in_digits s.id good.0.small) (Lacks-cons 10 32 (encode_lower s.seed) (λ e. omega (arith, e)) (no_feed_in_digits s.seed good.1.small))),
  tt,
)

no_feed_in_publics : (long : ℕ) (keys : List (List ℕ)) (r : ℕ) → r + length keys ≤ 255 → AllByRecursion (IsBytes long) keys → HaveNoFeed (public_lines r keys)
no_feed_in_publics long [] r few good = tt
no_feed_in_publics long (k ∷ keys) r few good =
    (no_feed_in_key (codes "public ") (Replica r) long k (tested (codes "public ") refl) (omega (arith, few)) good.0, no_feed_in_publics long keys (r + 1) (omega (arith, few)) good.1)

-- each party that has lines of its own is small
abbrev AreSmall : List Party → Type 0
AreSmall ps = AllByRecursion IsParty ps

no_feed_in_peers : (xs : List Peer) → AreSmall (map (λ x. x.party) xs) → AllByRecursion (λ x. IsBytes 32 x.to × IsBytes 32 x.from) xs → HaveNoFeed (flat_map peer_lines xs)
no_feed_in_peers [] small good = tt
no_feed_in_peers (x ∷ xs) small good = (
  no_feed_in_key (codes "out ") x.party 32 x.to (tested (codes "out ") refl) small.0 good.0.0,
  (
    no_feed_in_key (codes "in ") x.party 32 x.from (tested (codes "in ") refl) small.0 good.0.1,
    no_feed_in_peers xs small.1 good.1,
  ),
)

small_replicas : (a n : ℕ) → a + n ≤ 256 → AreSmall (map Replica (range_with_len a n))
small_replicas a zero few = tt
small_replicas a (suc n) few = (omega (arith, few), small_replicas (a + 1) n (omega (arith, few)))

small_clients : (a n : ℕ) → a + n ≤ 65536 → AreSmall (map Client (range_with_len a n))
small_clients a zero few = tt
small_clients a (suc n) few = (omega (arith, few), small_clients (a + 1) n (omega (arith, few)))

small_both : (ps qs : List Party) → AreSmall ps → AreSmall qs → AreSmall (ps ++ qs)
small_both [] qs first second = second
small_both (p ∷ ps) qs first second = (first.0, small_both ps qs first.1 second)

chosen : (b : Bool) (p : Party) (ps : List Party) → IsParty p → AreSmall ps → AreSmall (if b then p ∷ ps else ps)
chosen true p ps one rest = (one, rest)
chosen false p ps one rest = rest

small_filter : (me : Party) (ps : List Party) → AreSmall ps → AreSmall (filter (exchanges me) ps)
small_filter me [] small = tt
small_filter me (p ∷ ps) small = chosen (exchanges me p) p (filter (exchanges me) ps) small.0 (small_filter me ps small.1)

small_peers : (f clients : ℕ) (me : Party) → IsInBounds f clients → AreSmall (peers_in f clients me)
unfolding parties
small_peers f clients me bounds =
    let fs = bounds.few_faulty in
    let cs = bounds.few_clients in
    small_filter me (parties f clients) (small_both (map Replica (range_with_len 0 (3 * f + 1))) (map Client (range_with_len 0 clients)) (small_replicas 0 (3 * f + 1) (omega (arith, fs))) (small_clients 0 clients (omega (arith, cs))))

small_party : (f clients : ℕ) (p : Party) → IsInBounds f clients → IsTrue (is_party f clients p) → IsParty p
small_party f clients (Replica r) bounds inside = let lt : r < 3 * f + 1 = (Decides-ltb r (3 * f + 1)).0 inside in let few = bounds.few_faulty in omega (arith, lt, few)
small_party f clients (Client c) bounds inside = let lt : c < clients = (Decides-ltb c clients).0 inside in let few = bounds.few_clients in omega (arith, lt, few)

no_feed_in_version : (w : KeyVersion) → HasNoFeed (keys_line w)
no_feed_in_version One = tested (codes "keys 1") refl
no_feed_in_version Two = tested (codes "keys 2") refl
no_feed_in_version Three = tested (codes "keys 3") refl

no_feed_in_checkpoints : (k : ℕ) (p : Plan) → k ≤ most_built p → HaveNoFeed (checkpoint_lines k)
no_feed_in_checkpoints zero p dense = tt
no_feed_in_checkpoints (suc k) p dense =
    let few = few_built p in
    subst HaveNoFeed (sym (lines_due (suc k) (omega arith)))
    (Lacks-append 10 (codes "checkpoint ") (decimal (suc k)) (tested (codes "checkpoint ") refl) (Lacks-decimal 10 (suc k) (omega arith) (omega (arith, dense, few))), tt)

no_feed : (k : PartyKeys) → IsPartyKeys k → HaveNoFeed (key_lines k)
no_feed k good =
    let bounds = good.bounds in
    let fs = bounds.few_faulty in
    let cs = bounds.few_clients in
    let count = good.public_of_each in
    let me = Lacks-append 10 (codes "party ") (party_text k.me) (tested (codes "party ") refl) (Lacks-party 10 k.me (omega arith) (small_party k.f k.clients k.me bounds good.party)) in
    let f = Lacks-append 10 (codes "f ") (decimal k.f) (tested (codes "f ") refl) (Lacks-decimal 10 k.f (omega arith) (omega (arith, fs))) in
    let clients = Lacks-append 10 (codes "clients ") (decimal k.clients) (tested (codes "clients ") refl) (Lacks-decimal 10 k.clients (omega arith) (omega (arith, cs))) in
    both (cluster_lines k) (name_lines k ++ (secret_lines k.secret ++ (flat_map peer_lines k.peers ++ public_lines 0 k.publics)))
    (no_feed_in_version (key_version_of k.every k.lms), (me, (f, (clients, tt))))
    (both (name_lines k) (secret_lines k.secret ++ (flat_map peer_lines k.peers ++ public_lines 0 k.publics))
    (no_feed_in_plan k.plan, (no_feed_in_service k.service, (no_feed_in_scheme k.lms, no_feed_in_checkpoints k.every k.plan good.dense)))
    (both (secret_lines k.secret) (flat_map peer_lines k.peers ++ public_lines 0 k.publics) (no_feed_in_secret k.me k.secret good.secret)
    (both (flat_map peer_lines k.peers) (public_lines 0 k.publics)
    (no_feed_in_peers k.peers (subst AreSmall (sym good.peers) (small_peers k.f k.clients k.me bounds)) good.keys)
    (no_feed_in_publics (public_length k.lms) k.publics 0 (omega (arith, count, fs)) good.publics))))

-- what is written is read
pub written_reads : (k : PartyKeys) → IsPartyKeys k → keys_in (lines_of (text_of (key_lines k))) ≡ Ok k
written_reads k good = ap keys_in (lines_of-text_of (key_lines k) (no_feed k good)) ∙ spelled_reads k good

-- ---- a node's text

both_true : (a b : Bool) → (a && b) ≡ true → (a ≡ true) × (b ≡ true)
both_true true b e = (refl, e)
both_true false b e = absurd (cc)

no_feed_in_printable : (text : List ℕ) → is_printable text ≡ true → HasNoFeed text
no_feed_in_printable [] e = tested [] refl
no_feed_in_printable (b ∷ bs) e =
    let parts = both_true (nat_le 0x20 b && nat_le b 0x7e) (is_printable bs) e in
    let low : 0x20 ≤ b = leb-true 0x20 b (both_true (nat_le 0x20 b) (nat_le b 0x7e) parts.0).0 in
    Lacks-cons 10 b bs (λ same. omega (arith, same, low)) (no_feed_in_printable bs parts.1)

no_feed_in_command : (command : List ℕ) → is_command command ≡ true → HasNoFeed (command_line command)
no_feed_in_command command e =
    let some = both_true (nat_le 1 (length command)) (nat_le (length command) 128 && is_printable command) e in
    let few = both_true (nat_le (length command) 128) (is_printable command) some.1 in
    Lacks-append 10 (codes "do ") command (tested (codes "do ") refl) (no_feed_in_printable command few.1)

no_feed_in_clients : (commands : List (List ℕ)) → AllByRecursion (λ command. IsTrue (is_command command)) commands → HaveNoFeed (command_lines commands)
no_feed_in_clients [] good = (tested (codes "end") refl, tt)
no_feed_in_clients (c ∷ cs) good = (no_feed_in_command c good.0, no_feed_in_clients cs good.1)

no_feed_in_commands : (me : Party) (commands : List (List ℕ)) → AreCommandsOf me commands → HaveNoFeed (command_lines commands)
no_feed_in_commands (Replica r) commands none = subst (λ (cs : List (List ℕ)). HaveNoFeed (command_lines cs)) (sym none) (no_feed_in_clients [] tt)
no_feed_in_commands (Client c) commands good = no_feed_in_clients commands good

pub written_node_reads : (n : NodeText) → IsNodeText n → node_in (lines_of (text_of (node_lines n))) ≡ Ok n
written_node_reads n good =
    ap node_in (lines_of-text_of (node_lines n) (both (key_lines n.keys) (command_lines n.commands) (no_feed n.keys good.keys) (no_feed_in_commands n.keys.me n.commands good.commands)))
    ∙ nodes_are_read n good
