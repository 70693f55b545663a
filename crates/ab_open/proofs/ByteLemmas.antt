-- Lists of bytes, as a program tells them and as a format speaks of them.
use Rattle.std.proofs.Common.{◌≡◌, ◌<◌, ◌&&◌, ℕ, zero, suc, true, nat_lt, List, [], ◌∷◌, refl, arith}
use Rattle.std.specs.List.{list_all}
use Rattle.std.proofs.lemmas.Bool.{and_parts, ltb-true}
use Rattle.ab_form.specs.Formats.{IsBytes}

is_byte : (b : ℕ) → b < 256 → nat_lt b 256 ≡ true
is_byte b lt = search arith

pub all_bytes : (bytes : List ℕ) → IsBytes bytes → list_all (λ b. nat_lt b 256) bytes ≡ true
all_bytes [] fits = refl
all_bytes (b ∷ bytes) fits = (λ j. is_byte b (fits 0) j && all_bytes bytes (λ i. fits (suc i)) j)

pub are_bytes : (bytes : List ℕ) → list_all (λ b. nat_lt b 256) bytes ≡ true → IsBytes bytes
are_bytes [] all i = omega arith
are_bytes (b ∷ bytes) all zero = ltb-true b 256 (and_parts (nat_lt b 256) _ all).0
are_bytes (b ∷ bytes) all (suc i) = are_bytes bytes (and_parts (nat_lt b 256) _ all).1 i
