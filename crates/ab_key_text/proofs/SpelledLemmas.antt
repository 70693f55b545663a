-- What is spelled as a key text is read as it.
use Rattle.std.proofs.Common.{◌≡◌, ℕ, zero, ◌+◌, ◌*◌, ◌<◌, ◌≤◌, ◌^◌, List, [], ◌∷◌, ◌++◌, map, Option, None, Some, Result, Ok, codes, decimal, take, drop, length, refl, sym, ap, ◌∙◌, arith, if◌then◌else◌, append-nil, append_assoc}
use Rattle.std.specs.Prelude.{flat_map, ◌&&◌}
use Rattle.std.specs.List.{AllByRecursion, range_with_len}
use Rattle.std.specs.Option.{option_and_then}
use Rattle.std.proofs.lemmas.Bool.{le-leb}
use Rattle.hex.specs.Hex.{encode_lower, lower_digits}
use Rattle.hex.proofs.HexLemmas.{length-encode_with}
use Rattle.ab_num.specs.declared.party.Party.{Party}
use Rattle.ab_num.specs.declared.party.Party.TheVariants.{Replica, Client}
use Rattle.ab_keys.specs.Rings.{Peer}
use Rattle.ab_text.specs.Cores.{party_text}
use Rattle.ab_text.specs.Heads.{number_in as digits_in}
use Rattle.ab_text.proofs.HexLemmas.{read_bytes}
use Rattle.ab_text.proofs.NumberLemmas.{is_some_number}
use Rattle.ab_text.proofs.WordLemmas.{stripped-is}
use Rattle.ab_key_text.specs.declared.fault.NodeFault.{NodeFault}
use Rattle.ab_text.specs.HexBytes.{bytes_in}
use Rattle.ab_key_text.specs.Keys.{Secret, IsBytes, IsSecretOf}
use Rattle.ab_key_text.specs.Lines.{◌>>=◌, found_at, line_at, bounded, number_in, numbered, or_else, party_in, bytes_after, key_in}
use Rattle.ab_key_text.specs.Reading.{Read, secret_of_parts, secret_text_in, secret_in, secret_at, peers_at, publics_at}
use Rattle.ab_key_text.specs.Spelling.{key_line, peer_lines, public_lines, secret_line, secret_lines}

abbrev Rest : Type 0
Rest = List (List ℕ)

pub line_read : {A : Type 0} (read : List ℕ → Option A) (n : ℕ) (l : List ℕ) (ls : Rest) (a : A) → read l ≡ Some a → line_at read n (l ∷ ls) ≡ Ok (a, ls)
line_read read n l ls a e = ap (found_at n ls) e

bytes_read : (word : List ℕ) (n : ℕ) (b : List ℕ) → IsBytes n b → bytes_after word n (word ++ encode_lower b) ≡ Some b
bytes_read word n b good = ap (option_and_then (bytes_in n)) (stripped-is word (word ++ encode_lower b) (encode_lower b) refl) ∙ read_bytes n b good.long good.small

pub key_read : (word : List ℕ) (p : Party) (n : ℕ) (key : List ℕ) → IsBytes n key → key_in word p n (key_line word p key) ≡ Some key
key_read word p n key good = bytes_read (word ++ party_text p ++ codes " ") n key good

-- ---- the peers and the public keys

abbrev Peers : Type 0
Peers = Result (Read (List Peer)) NodeFault

abbrev with_to : Peer → List Party → List Peer → ℕ → Rest → List ℕ → Peers
with_to x ps done n tail to = line_at (key_in (codes "in ") x.party 32) (n + 1) tail >>= λ from. peers_at ps (done ++ record { party = x.party; to = to; from = from.0 } ∷ []) (n + 2) from.1

pub peers_read : (xs : List Peer) (done : List Peer) (n : ℕ) (rest : Rest) → AllByRecursion (λ x. IsBytes 32 x.to × IsBytes 32 x.from) xs
    → peers_at (map (λ x. x.party) xs) done n (flat_map peer_lines xs ++ rest) ≡ Ok (record { value = done ++ xs; next = n + 2 * length xs; rest = rest })
peers_read [] done n rest good =
    let a : done ≡ done ++ [] = sym (append-nil done) in
    let b : n ≡ n + 2 * zero = omega arith in
    λ j. Ok (record { value = a j; next = b j; rest = rest })
peers_read (x ∷ xs) done n rest good =
    let tail : Rest = flat_map peer_lines xs ++ rest in
    let ps : List Party = map (λ y. y.party) xs in
    let first = line_read (key_in (codes "out ") x.party 32) n (key_line (codes "out ") x.party x.to) (key_line (codes "in ") x.party x.from ∷ tail) x.to (key_read (codes "out ") x.party 32 x.to good.0.0) in
    let second = line_read (key_in (codes "in ") x.party 32) (n + 1) (key_line (codes "in ") x.party x.from) tail x.from (key_read (codes "in ") x.party 32 x.from good.0.1) in
    let a : (done ++ x ∷ []) ++ xs ≡ done ++ x ∷ xs = append_assoc done (x ∷ []) xs in
    let b : n + 2 + 2 * length xs ≡ n + 2 * length (x ∷ xs) = omega arith in
    ap (λ (r : Result (List ℕ × Rest) NodeFault). r >>= λ to. with_to x ps done n to.1 to.0) first
    ∙ ap (λ (r : Result (List ℕ × Rest) NodeFault). r >>= λ from. peers_at ps (done ++ record { party = x.party; to = x.to; from = from.0 } ∷ []) (n + 2) from.1) second
    ∙ peers_read xs (done ++ x ∷ []) (n + 2) rest good.1
    ∙ (λ j. Ok (record { value = a j; next = b j; rest = rest }))

pub publics_read : (long : ℕ) (keys : List (List ℕ)) (done : List (List ℕ)) (r n : ℕ) (rest : Rest) → AllByRecursion (IsBytes long) keys
    → publics_at long (map Replica (range_with_len r (length keys))) done n (public_lines r keys ++ rest) ≡ Ok (record { value = done ++ keys; next = n + length keys; rest = rest })
publics_read long [] done r n rest good =
    let a : done ≡ done ++ [] = sym (append-nil done) in
    let b : n ≡ n + zero = omega arith in
    λ j. Ok (record { value = a j; next = b j; rest = rest })
publics_read long (k ∷ keys) done r n rest good =
    let tail : Rest = public_lines (r + 1) keys ++ rest in
    let first = line_read (key_in (codes "public ") (Replica r) long) n (key_line (codes "public ") (Replica r) k) tail k (key_read (codes "public ") (Replica r) long k good.0) in
    let a : (done ++ k ∷ []) ++ keys ≡ done ++ k ∷ keys = append_assoc done (k ∷ []) keys in
    let b : n + 1 + length keys ≡ n + length (k ∷ keys) = omega arith in
    ap (λ (x : Result (List ℕ × Rest) NodeFault). x >>= λ key. publics_at long (map Replica (range_with_len (r + 1) (length keys))) (done ++ key.0 ∷ []) (n + 1) key.1) first
    ∙ publics_read long keys (done ++ k ∷ []) (r + 1) (n + 1) rest good.1
    ∙ (λ j. Ok (record { value = a j; next = b j; rest = rest }))

-- ---- the secret

seam : (a b : List ℕ) → (take (length a) (a ++ b) ≡ a) × (drop (length a) (a ++ b) ≡ b)
seam [] b = (refl, refl)
seam (x ∷ a) b = let both = seam a b in (ap (λ t. x ∷ t) both.0, both.1)

secret_read : (s : Secret) → IsBytes 16 s.id → IsBytes 32 s.seed → secret_in (secret_line s) ≡ Some s
secret_read s id seed =
    let text : List ℕ = encode_lower s.id ++ 32 ∷ encode_lower s.seed in
    let named : length s.id ≡ 16 = id.long in
    let long : length (encode_lower s.id) ≡ 32 = length-encode_with lower_digits s.id ∙ ap (λ n. 2 * n) named in
    let both = seam (encode_lower s.id) (32 ∷ encode_lower s.seed) in
    let front : bytes_in 16 (take 32 text) ≡ Some s.id = ap (λ n. bytes_in 16 (take n text)) (sym long) ∙ ap (bytes_in 16) both.0 ∙ read_bytes 16 s.id id.long id.small in
    let back : bytes_after (codes " ") 32 (drop 32 text) ≡ Some s.seed = ap (λ n. bytes_after (codes " ") 32 (drop n text)) (sym long) ∙ ap (bytes_after (codes " ") 32) both.1 ∙ bytes_read (codes " ") 32 s.seed seed in
    ap (option_and_then secret_text_in) (stripped-is (codes "secret ") (secret_line s) text refl)
    ∙ (λ j. secret_of_parts (front j) (back j))

abbrev pub after_secret : ℕ → Option Secret → ℕ
after_secret n None = n
after_secret n (Some s) = n + 1

pub secret_at_read : (me : Party) (n : ℕ) (s : Option Secret) (rest : Rest) → IsSecretOf me s → secret_at me n (secret_lines s ++ rest) ≡ Ok (record { value = s; next = after_secret n s; rest = rest })
secret_at_read (Client c) n None rest good = refl
secret_at_read (Client c) n (Some s) rest good = absurd good
secret_at_read (Replica r) n None rest good = absurd good
secret_at_read (Replica r) n (Some s) rest good =
    ap (λ (x : Result (Secret × Rest) NodeFault). x >>= λ secret. Ok (record { value = Some secret.0; next = n + 1; rest = secret.1 }))
    (line_read secret_in n (secret_line s) rest s (secret_read s good.0 good.1))

-- ---- the head

pub number_read : (word : List ℕ) (low high k : ℕ) → low ≤ k → k ≤ high → k < 2 ^ 64 → number_in word low high (word ++ decimal k) ≡ Some k
number_read word low high k above below small =
    ap (λ o. bounded low high (digits_in o)) (stripped-is word (word ++ decimal k) (decimal k) refl)
    ∙ ap (bounded low high) (is_some_number (decimal k) k small refl)
    ∙ (λ j. if le-leb low k above j && le-leb k high below j then Some k else None)

-- the number has its bits
abbrev pub IsSmall : Party → Type 0
IsSmall (Replica r) = r ≤ 255
IsSmall (Client c) = c ≤ 65535

pub party_read : (p : Party) → IsSmall p → party_in (party_text p) ≡ Some p
party_read (Replica r) few =
    ap (λ o. or_else (numbered Replica o) (numbered Client (number_in (codes "c") 0 65535 (party_text (Replica r))))) (number_read (codes "r") 0 255 r (omega arith) few (omega (arith, few)))
party_read (Client c) few =
    ap (λ o. or_else None (numbered Client o)) (number_read (codes "c") 0 65535 c (omega arith) few (omega (arith, few)))
