-- A SHA-256 digest has 32 elements, which are bytes.
use Rattle.std.proofs.Common.{◌≡◌, ℕ, zero, suc, ◌*◌, ◌<◌, List, [], ◌∷◌, ◌++◌, length, get_or, refl, ◌∙◌, arith, length-append, lit<}
use Rattle.std.specs.Int.{w16, w32, to_be_bytes}
use Rattle.sha2.specs.Sha256.{sha256, digest_bytes}

length-digest_bytes : (h : List ℕ) (n : ℕ) → length (digest_bytes h n) ≡ 4 * n
unfolding digest_bytes
length-digest_bytes h zero = refl
length-digest_bytes h (suc n) = length-append (digest_bytes h n) _ ∙ omega (arith, length-digest_bytes h n)

pub length-sha256 : (m : List ℕ) → length (sha256 m) ≡ 32
unfolding sha256
length-sha256 m = length-digest_bytes _ 8

-- each element is a byte
abbrev pub IsBytes : List ℕ → Type 0
IsBytes xs = (i : ℕ) → get_or xs i 0 < 256

pub IsBytes-append : (xs ys : List ℕ) → IsBytes xs → IsBytes ys → IsBytes (xs ++ ys)
IsBytes-append [] ys p q i = q i
IsBytes-append (x ∷ xs) ys p q zero = p 0
IsBytes-append (x ∷ xs) ys p q (suc i) = IsBytes-append xs ys (λ j. p (suc j)) q i

pub IsBytes-two : (n : ℕ) → IsBytes (to_be_bytes w16 n)
IsBytes-two n zero = omega arith
IsBytes-two n (suc zero) = omega arith
IsBytes-two n (suc (suc i)) = lit< tt

pub IsBytes-four : (n : ℕ) → IsBytes (to_be_bytes w32 n)
IsBytes-four n zero = omega arith
IsBytes-four n (suc zero) = omega arith
IsBytes-four n (suc (suc zero)) = omega arith
IsBytes-four n (suc (suc (suc zero))) = omega arith
IsBytes-four n (suc (suc (suc (suc i)))) = lit< tt

IsBytes-digest : (h : List ℕ) (n : ℕ) → IsBytes (digest_bytes h n)
unfolding digest_bytes
IsBytes-digest h zero i = lit< tt
IsBytes-digest h (suc n) i = IsBytes-append (digest_bytes h n) (to_be_bytes w32 (get_or h n 0)) (IsBytes-digest h n) (IsBytes-four (get_or h n 0)) i

pub IsBytes-sha256 : (m : List ℕ) → IsBytes (sha256 m)
unfolding sha256
IsBytes-sha256 m = IsBytes-digest _ 8
