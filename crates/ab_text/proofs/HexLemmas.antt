-- Hexadecimal text in lower case is that of its bytes.
use Rattle.std.proofs.Common.{◌≡◌, ℕ, zero, suc, ◌+◌, ◌*◌, ◌-◌, ◌/◌, ◌%◌, ◌<◌, ◌≤◌, ◌==◌, Bool, true, ◌&&◌, List, [], ◌∷◌, length, slice_index, Option, Some, None, unwrap_or, Result, Ok, Err, refl, sym, ap, ◌∙◌, arith, inl, inr, ◌⊎◌, All, subst, get_or, zero-add, if◌then◌else◌}
use Rattle.std.specs.Prelude.{nat_le}
use Rattle.std.proofs.lemmas.Bool.{and_parts, cases_lt, eqb-true, leb-true}
use Rattle.std.specs.Str.{bytes_eq}
use Rattle.std.proofs.lemmas.Grind.{get_or_default_zero}
use Rattle.std.proofs.lemmas.Option.{cond_some, none-some}
use Rattle.std.proofs.lemmas.Slice.Eq.{bytes_eq-Decides}
use Rattle.std.proofs.lemmas.List.{get_or_default}
use Rattle.std.proofs.lemmas.List.Elements.{All-cons}
use Rattle.std.specs.Result.{result_unwrap_or}
use Rattle.hex.specs.declared.error.FromHexError.{FromHexError}
use Rattle.hex.specs.declared.error.FromHexError.TheVariants.{OutOfMemory}
use Rattle.hex.specs.Hex.{IsBytes, decode_of, decode_pairs, decode_sized, digit_or_error, hex_digit_value, encode_lower, encode_with, lower_digits, pair_value, value_at, ◌>>=◌}
use Rattle.hex.proofs.HexLemmas.{decode_of-even, decode_of-ok, decode_of-encode_lower, decode_sized-encode_lower, decode_sized-ok, decode_sized-twice, length-encode_with}
use Rattle.ab_text.specs.EventLines.{IsInjected}
use Rattle.ab_text.specs.HexBytes.{bytes_in, in_lower_case}
use Rattle.ab_text.specs.HexDigits.{IsLowerDigit}

-- the test of one digit, which computes: its value's place in the table holds it
abbrev placed : ℕ → Bool
placed c = slice_index lower_digits (unwrap_or (hex_digit_value c) 99) == c

-- the test of n bytes from b on
abbrev all_placed : ℕ → ℕ → Bool
all_placed b zero = true
all_placed b (suc n) = placed (b + n) && all_placed b n

all_placed-at : (b n k : ℕ) → all_placed b n ≡ true → k < n → placed (b + k) ≡ true
all_placed-at b zero k h lt = absurd (omega arith)
all_placed-at b (suc n) k h lt =
    let parts = and_parts (placed (b + n)) (all_placed b n) h in
    elim (cases_lt k n) [
      | inl below ↦ all_placed-at b n k parts.1 below
      | inr top ↦
          let e : k ≡ n = omega arith in
          rw e parts.0
    ]

at_digit : (c : ℕ) → IsLowerDigit c → placed c ≡ true
at_digit c (inl low) =
    let e : 48 + (c - 48) ≡ c = omega (arith, low.0) in
    subst (λ x. placed x ≡ true) e (all_placed-at 48 10 (c - 48) refl (omega (arith, low.0, low.1)))
at_digit c (inr high) =
    let e : 97 + (c - 97) ≡ c = omega (arith, high.0) in
    subst (λ x. placed x ≡ true) e (all_placed-at 97 6 (c - 97) refl (omega (arith, high.0, high.1)))

-- a digit that reads as v stands at v
spelled : (c v : ℕ) → IsLowerDigit c → hex_digit_value c ≡ Some v → slice_index lower_digits v ≡ c
spelled c v good e = ap (λ (o : Option ℕ). slice_index lower_digits (unwrap_or o 99)) (sym e) ∙ eqb-true (slice_index lower_digits (unwrap_or (hex_digit_value c) 99)) c (at_digit c good)

small : (c v : ℕ) → hex_digit_value c ≡ Some v → v < 16
small c v h = grind (arith)

bind_ok : {A B : Type 0} (r : Result A FromHexError) (f : A → Result B FromHexError) (y : B) → (r >>= f) ≡ Ok y → (x : A) × (r ≡ Ok x) × (f x ≡ Ok y)
bind_ok (Ok x) f y h = (x, refl, h)
bind_ok (Err e) f y h = cc h

digit_read : (c i : ℕ) (o : Option ℕ) (v : ℕ) → digit_or_error c i o ≡ Ok v → o ≡ Some v
digit_read c i (Some w) v h = ap Some (ap (λ (r : Result ℕ FromHexError). result_unwrap_or r 0) h)
digit_read c i None v h = cc h

-- the two digits of a byte
halves : (h l : ℕ) → h < 16 → l < 16 → ((h * 16 + l) / 16 ≡ h) × ((h * 16 + l) % 16 ≡ l)
halves h l hs ls = (omega (arith, hs, ls), omega (arith, hs, ls))

pairs_spelled : (i : ℕ) (s bytes : List ℕ) → All IsLowerDigit s → decode_pairs i s ≡ Ok bytes → s ≡ encode_lower bytes
unfolding decode_pairs encode_with
pairs_spelled i [] bytes good h =
    let e : [] ≡ bytes = ap (λ (r : Result (List ℕ) FromHexError). result_unwrap_or r []) h in
    subst (λ x. [] ≡ encode_lower x) e refl
pairs_spelled i (a ∷ []) bytes good h = cc h
pairs_spelled i (a ∷ b ∷ rest) bytes good h =
    let p0 = bind_ok (pair_value a b i) _ bytes h in
    let p1 = bind_ok (value_at a i) _ p0.0 p0.1 in
    let p2 = bind_ok (value_at b (i + 1)) _ p0.0 p1.2 in
    let p3 = bind_ok (decode_pairs (i + 2) rest) _ bytes p0.2 in
    let later : rest ≡ encode_lower p3.0 = pairs_spelled (i + 2) rest p3.0 (λ k d lt. good (suc (suc k)) d (omega arith)) p3.1 in
    let e : p0.0 ∷ p3.0 ≡ bytes = ap (λ (r : Result (List ℕ) FromHexError). result_unwrap_or r []) p3.2 in
    let va = digit_read a i (hex_digit_value a) p1.0 p1.1 in
    let vb = digit_read b (i + 1) (hex_digit_value b) p2.0 p2.1 in
    let byte : p1.0 * 16 + p2.0 ≡ p0.0 = ap (λ (r : Result ℕ FromHexError). result_unwrap_or r 0) p2.2 in
    let both = halves p1.0 p2.0 (small a p1.0 va) (small b p2.0 vb) in
    let first : a ≡ slice_index lower_digits (p0.0 / 16) = sym (spelled a p1.0 (good 0 0 (omega arith)) va) ∙ ap (slice_index lower_digits) (sym both.0 ∙ ap (λ x. x / 16) byte) in
    let second : b ≡ slice_index lower_digits (p0.0 % 16) = sym (spelled b p2.0 (good 1 0 (omega arith)) vb) ∙ ap (slice_index lower_digits) (sym both.1 ∙ ap (λ x. x % 16) byte) in
    subst (λ x. a ∷ b ∷ rest ≡ encode_lower x) e (λ j. first j ∷ second j ∷ later j)

-- what decodes, and has at least two digits and at most twice four million
pub decoded_spelled : (s bytes : List ℕ) → (1 ≤ length s) → (length s ≤ 8388608) → All IsLowerDigit s → decode_of s ≡ Ok bytes → IsInjected bytes × (s ≡ encode_lower bytes)
decoded_spelled s bytes some few good h =
    let ok = decode_of-ok s bytes h in
    let twice : length s ≡ 2 * length bytes = ok.2 in
    let small : All (λ b. b < 256) bytes = λ k d lt. (let e : get_or bytes k d ≡ get_or bytes k 0 = get_or_default bytes k d 0 lt in let b : get_or bytes k 0 < 256 = ok.3 k in omega (arith, e, b)) in
    (record { some = omega (arith, twice, some); few = omega (arith, twice, few); small = small }, pairs_spelled 0 s bytes good (sym (decode_of-even s ok.0) ∙ h))

-- ---- texts of bytes

-- the test of n places from b on, which computes
abbrev all_between : ℕ → ℕ → ℕ → ℕ → Bool
all_between low high b zero = true
all_between low high b (suc n) = (nat_le low (slice_index lower_digits (b + n)) && nat_le (slice_index lower_digits (b + n)) high) && all_between low high b n

all_between-at : (low high b n k : ℕ) → all_between low high b n ≡ true → k < n → (low ≤ slice_index lower_digits (b + k)) × (slice_index lower_digits (b + k) ≤ high)
all_between-at low high b zero k h lt = absurd (omega arith)
all_between-at low high b (suc n) k h lt =
    let parts = and_parts (nat_le low (slice_index lower_digits (b + n)) && nat_le (slice_index lower_digits (b + n)) high) (all_between low high b n) h in
    elim (cases_lt k n) [
      | inl below ↦ all_between-at low high b n k parts.1 below
      | inr top ↦
          let e : n ≡ k = omega arith in
          let both = and_parts (nat_le low (slice_index lower_digits (b + n))) (nat_le (slice_index lower_digits (b + n)) high) parts.0 in
          subst (λ m. (low ≤ slice_index lower_digits (b + m)) × (slice_index lower_digits (b + m) ≤ high)) e (leb-true low (slice_index lower_digits (b + n)) both.0, leb-true (slice_index lower_digits (b + n)) high both.1)
    ]

digit_lower : (d : ℕ) → d < 16 → IsLowerDigit (slice_index lower_digits d)
digit_lower d lt = elim (cases_lt d 10) [
  | inl low ↦ (let both = all_between-at 48 57 0 10 d refl low in inl (subst (λ m. (48 ≤ slice_index lower_digits m) × (slice_index lower_digits m ≤ 57)) (zero-add d) both))
  | inr high ↦
      let e : 10 + (d - 10) ≡ d = omega (arith, high) in
      let both = all_between-at 97 102 10 6 (d - 10) refl (omega (arith, high, lt)) in
      inr (subst (λ m. (97 ≤ slice_index lower_digits m) × (slice_index lower_digits m ≤ 102)) e both)
]

pub encoded_lower : (bytes : List ℕ) → All (λ b. b < 256) bytes → All IsLowerDigit (encode_lower bytes)
unfolding encode_with
encoded_lower [] good = λ k d lt. absurd (omega arith)
encoded_lower (b ∷ rest) good =
    let fits : b < 256 = good 0 0 (omega arith) in
    let later = encoded_lower rest (λ k d lt. good (suc k) d (omega arith)) in
    All-cons IsLowerDigit _ (slice_index lower_digits (b % 16) ∷ encode_lower rest) (digit_lower (b / 16) (omega (arith, fits))) (All-cons IsLowerDigit _ (encode_lower rest) (digit_lower (b % 16) (omega (arith, fits))) later)

IsBytes-from : (bytes : List ℕ) → All (λ b. b < 256) bytes → IsBytes bytes
IsBytes-from [] good i = omega arith
IsBytes-from (b ∷ rest) good zero = good 0 0 (omega arith)
IsBytes-from (b ∷ rest) good (suc i) = IsBytes-from rest (λ k d lt. good (suc k) d (omega arith)) i

-- bytes have digits in lower case, two for each
pub digits_of : (s bytes : List ℕ) → IsInjected bytes → s ≡ encode_lower bytes → (1 ≤ length s) × (length s ≤ 8388608) × All IsLowerDigit s
digits_of s bytes good is =
    let twice : length s ≡ 2 * length bytes = ap length is ∙ length-encode_with lower_digits bytes in
    let some = good.some in
    let few = good.few in
    (omega (arith, twice, some), omega (arith, twice, few), subst (All IsLowerDigit) (sym is) (encoded_lower bytes good.small))

pub decodes : (s bytes : List ℕ) → IsInjected bytes → s ≡ encode_lower bytes → decode_of s ≡ Ok bytes
decodes s bytes good is = ap decode_of is ∙ decode_of-encode_lower bytes (IsBytes-from bytes good.small)

-- a text of bytes is refused only because an allocation failed
pub refused : (s bytes : List ℕ) (e : FromHexError) → IsInjected bytes → s ≡ encode_lower bytes → (e ≡ OutOfMemory) ⊎ (decode_of s ≡ Err e) → (e ≡ OutOfMemory → ⊥) → ⊥
refused s bytes e good is (inl memory) other = other memory
refused s bytes e good is (inr h) other = let k : ◌≡◌ {A = Result (List ℕ) FromHexError} (Ok bytes) (Err e) = sym (decodes s bytes good is) ∙ h in cc

pub same_bytes : (s bytes found : List ℕ) → IsInjected bytes → s ≡ encode_lower bytes → decode_of s ≡ Ok found → found ≡ bytes
same_bytes s bytes found good is h = ap (λ (r : Result (List ℕ) FromHexError). result_unwrap_or r []) (sym h ∙ decodes s bytes good is)

-- ---- so many bytes

pub bytes_were : (n : ℕ) (text b : List ℕ) → bytes_in n text ≡ Some b → (text ≡ encode_lower b) × (length b ≡ n) × All (λ x. x < 256) b
unfolding bytes_in
bytes_were n text b h = go (decode_sized text n) refl h where
  go : (r : Result (List ℕ) FromHexError) → decode_sized text n ≡ r → in_lower_case text r ≡ Some b → (text ≡ encode_lower b) × (length b ≡ n) × All (λ x. x < 256) b
  go (Err e) is k = absurd (none-some b k)
  go (Ok x) is k =
      let both = cond_some (bytes_eq text (encode_lower x)) x b k in
      let long = decode_sized-ok text n x is in
      let ok = decode_of-ok text x (sym (decode_sized-twice text n long) ∙ is) in
      let half = ok.2 in
      subst (λ (y : List ℕ). (text ≡ encode_lower y) × (length y ≡ n) × All (λ c. c < 256) y) both.1
      ((bytes_eq-Decides text (encode_lower x)).0 both.0, omega (arith, long, half), λ i d lt. subst (λ c. c < 256) (sym (get_or_default_zero x i d lt)) (ok.3 i))

pub read_bytes : (n : ℕ) (b : List ℕ) → length b ≡ n → All (λ x. x < 256) b → bytes_in n (encode_lower b) ≡ Some b
unfolding bytes_in
read_bytes n b long small =
    ap (in_lower_case (encode_lower b)) (decode_sized-encode_lower b n long (IsBytes-from b small))
    ∙ ap (λ t. if t then Some b else None) ((bytes_eq-Decides (encode_lower b) (encode_lower b)).1 refl)
