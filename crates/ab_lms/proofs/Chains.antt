-- A signature leads to the key of the leaf that made it.
use Rattle.std.proofs.Common.{◌≡◌, ℕ, zero, suc, ◌+◌, ◌-◌, ◌*◌, ◌/◌, ◌%◌, ◌≤◌, ◌==◌, ◌&&◌, List, [], ◌++◌, length, take, drop, get_or, slice_range, refl, sym, ◌∙◌, ap, subst, arith, add-suc, add-zero, zero-add, Some, None, length-append, append-nil, append_assoc, Bool, true, false, cond, eqb, if◌then◌else◌}
use Rattle.std.specs.Int.{w16, to_be_bytes}
use Rattle.ab_mac.proofs.Sha256Lemmas.{length-sha256, IsBytes, IsBytes-append, IsBytes-two, IsBytes-sha256}
use Rattle.ab_lms.proofs.Parts.{slice-append}
use Rattle.ab_lms.specs.OneTime.{chain, chain_step, digit, checksum, checked, message_digest, secret, randomizer, ends, key_of_ends, candidate, whole_chains, key_once, signed_values, signature}

-- steps one after the other
pub chain-join : (id : List ℕ) (q i from m n : ℕ) (v : List ℕ) → chain id q i from (m + n) v ≡ chain id q i (from + m) n (chain id q i from m v)
unfolding chain
chain-join id q i from m zero v = ap (λ k. chain id q i from k v) (add-zero m)
chain-join id q i from m (suc n) v = ap (λ k. chain id q i from k v) (add-suc m n)
    ∙ ap (λ k. chain_step id q i k (chain id q i from (m + n) v)) (let e : from + (m + n) ≡ from + m + n = omega arith in e)
    ∙ ap (chain_step id q i (from + m + n)) (chain-join id q i from m n v)

pub length-chain : (id : List ℕ) (q i from n : ℕ) (v : List ℕ) → length v ≡ 32 → length (chain id q i from n v) ≡ 32
unfolding chain chain_step
length-chain id q i from zero v h = h
length-chain id q i from (suc n) v h = length-sha256 _

pub length-secret : (id : List ℕ) (q : ℕ) (seed : List ℕ) (i : ℕ) → length (secret id q seed i) ≡ 32
unfolding secret
length-secret id q seed i = length-sha256 _

pub length-signed_values : (id : List ℕ) (q : ℕ) (seed digits : List ℕ) (n : ℕ) → length (signed_values id q seed digits n) ≡ 32 * n
unfolding signed_values
length-signed_values id q seed digits zero = refl
length-signed_values id q seed digits (suc n) = length-append (signed_values id q seed digits n) _
    ∙ omega (arith, length-signed_values id q seed digits n, length-chain id q n 0 (digit digits n) (secret id q seed n) (length-secret id q seed n))

-- the first n values are the beginning of the first n + k
values-grow : (id : List ℕ) (q : ℕ) (seed digits : List ℕ) (n k : ℕ)
    → (rest : List ℕ) × (signed_values id q seed digits (n + k) ≡ signed_values id q seed digits n ++ rest)
unfolding signed_values
values-grow id q seed digits n zero = ([], ap (signed_values id q seed digits) (add-zero n) ∙ sym (append-nil _))
values-grow id q seed digits n (suc k) =
    let ih = values-grow id q seed digits n k in
    let last = chain id q (n + k) 0 (digit digits (n + k)) (secret id q seed (n + k)) in
    (ih.0 ++ last, ap (signed_values id q seed digits) (add-suc n k) ∙ ap (λ l. l ++ last) ih.1 ∙ append_assoc (signed_values id q seed digits n) ih.0 last)

value-at : (id : List ℕ) (q : ℕ) (seed digits : List ℕ) (n k : ℕ)
    → slice_range (signed_values id q seed digits (suc n + k)) (32 * n) (32 * n + 32) ≡ chain id q n 0 (digit digits n) (secret id q seed n)
unfolding signed_values
value-at id q seed digits n k =
    let g = values-grow id q seed digits (suc n) k in
    let one = chain id q n 0 (digit digits n) (secret id q seed n) in
    let w : 32 * n + 32 - 32 * n ≡ 32 = omega arith in
    ap (λ l. slice_range l (32 * n) (32 * n + 32)) (g.1 ∙ append_assoc (signed_values id q seed digits n) one g.0)
    ∙ ap (λ m. take m (drop (32 * n) (signed_values id q seed digits n ++ (one ++ g.0)))) w
    ∙ slice-append (signed_values id q seed digits n) one g.0 (32 * n) 32 (length-signed_values id q seed digits n) (length-chain id q n 0 (digit digits n) (secret id q seed n) (length-secret id q seed n))

-- the ends of the first n chains of a signature are those of the whole chains
ends-signed : (id : List ℕ) (q : ℕ) (seed digits : List ℕ) (n k : ℕ) → ((i : ℕ) → digit digits i ≤ 15)
    → ends id q digits (signed_values id q seed digits (n + k)) n ≡ whole_chains id q seed n
unfolding ends whole_chains
ends-signed id q seed digits zero k small = refl
ends-signed id q seed digits (suc n) k small =
    let all = signed_values id q seed digits (suc n + k) in
    let d = digit digits n in
    let x = secret id q seed n in
    let e : n + suc k ≡ suc n + k = omega arith in
    let s = small n in
    let whole : d + (15 - d) ≡ 15 = omega arith in
    let front = ap (λ m. ends id q digits (signed_values id q seed digits m) n) (sym e) ∙ ends-signed id q seed digits n (suc k) small in
    let last = ap (chain id q n d (15 - d)) (value-at id q seed digits n k) ∙ ap (λ m. chain id q n m (15 - d) (chain id q n 0 d x)) (sym (zero-add d)) ∙ sym (chain-join id q n 0 d (15 - d) x) ∙ ap (λ m. chain id q n 0 m x) whole in
    ap (λ l. l ++ chain id q n d (15 - d) (slice_range all (32 * n) (32 * n + 32))) front ∙ ap (λ l. whole_chains id q seed n ++ l) last

digit-le : (xs : List ℕ) → IsBytes xs → (i : ℕ) → digit xs i ≤ 15
digit-le xs p i =
    let b = p (i / 2) in
    elim (i % 2 == 0) as (λ v. (if v then get_or xs (i / 2) 0 / 16 else get_or xs (i / 2) 0 % 16) ≤ 15) [ true ↦ omega arith | false ↦ omega arith ]

checked-digits : (digest : List ℕ) → IsBytes digest → (i : ℕ) → digit (checked digest) i ≤ 15
checked-digits digest p = digit-le (checked digest) (IsBytes-append digest (to_be_bytes w16 (16 * checksum digest 64)) p (IsBytes-two (16 * checksum digest 64)))

length-randomizer : (id : List ℕ) (q : ℕ) (seed : List ℕ) → length (randomizer id q seed) ≡ 32
unfolding randomizer
length-randomizer id q seed = length-sha256 _

digest-bytes : (id : List ℕ) (q : ℕ) (c message : List ℕ) → IsBytes (message_digest id q c message)
unfolding message_digest
digest-bytes id q c message = IsBytes-sha256 _

taken : (ok : Bool) (x y : List ℕ) → ok ≡ true → x ≡ y → cond ok (Some x) None ≡ Some y
taken ok x y p e = rw p (ap Some e)

pub leads : (id seed message : List ℕ) (q : ℕ) → candidate id q message (signature id q seed message) ≡ Some (key_once id q seed)
leads id seed message q =
    let c = randomizer id q seed in
    let digits = checked (message_digest id q c message) in
    let values = signed_values id q seed digits 67 in
    let lc : length c ≡ 32 = length-randomizer id q seed in
    let lv : length values ≡ 2144 = length-signed_values id q seed digits 67 in
    let long : length (c ++ values) ≡ 2176 = length-append c values ∙ omega arith in
    let P : ℕ → Type 0 = λ n. eqb (suc (suc (suc (suc n)))) 2180 && true ≡ true in
    let front : take 32 (c ++ values) ≡ c = slice-append [] c values 0 32 refl lc in
    let back : take 2144 (drop 32 (c ++ values)) ≡ values = ap (λ l. take 2144 (drop 32 (c ++ l))) (sym (append-nil values)) ∙ slice-append c values [] 32 2144 lc lv in
    let G : List ℕ → List ℕ → List ℕ = λ a b. key_of_ends id q (ends id q (checked (message_digest id q a message)) b 67) in
    taken _ _ _ (subst P (sym long) refl)
    (ap (λ a. G a (take 2144 (drop 32 (c ++ values)))) front ∙ ap (G c) back
    ∙ ap (key_of_ends id q) (ends-signed id q seed digits 67 0 (checked-digits (message_digest id q c message) (digest-bytes id q c message))))

pub length-signature : (id : List ℕ) (q : ℕ) (seed message : List ℕ) → length (signature id q seed message) ≡ 2180
length-signature id q seed message =
    let c = randomizer id q seed in
    let values = signed_values id q seed (checked (message_digest id q c message)) 67 in
    let lc : length c ≡ 32 = length-randomizer id q seed in
    let lv : length values ≡ 2144 = length-signed_values id q seed (checked (message_digest id q c message)) 67 in
    let long : length (c ++ values) ≡ 2176 = length-append c values ∙ omega arith in
    ap (λ n. suc (suc (suc (suc n)))) long

pub ruleset signature_lengths = (length-signature)
