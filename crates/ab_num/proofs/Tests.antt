-- Tests of numbers and of bytes.
use Rattle.std.proofs.Common.{◌≡◌, ℕ, true, false, List, refl, arith}
use Rattle.std.specs.Prelude.{◌==◌, nat_lt, bytes_eq}
use Rattle.std.proofs.lemmas.Bool.Decides.{nat_tests}
use Rattle.std.proofs.lemmas.Slice.Eq.{bytes_eq-Decides}

pub bytes_eq-refl : (d : List ℕ) → bytes_eq d d ≡ true
bytes_eq-refl d = (bytes_eq-Decides d d).1 refl

pub nat_lt-turned : (a b : ℕ) → nat_lt a b ≡ true → nat_lt b a ≡ false
nat_lt-turned a b h = grind (arith, nat_tests)

pub nat_lt-same : (a b : ℕ) → (a == b) ≡ true → nat_lt b a ≡ false
nat_lt-same a b h = grind (arith, nat_tests)

pub nat_lt-above : (a b : ℕ) → nat_lt a b ≡ false → (a == b) ≡ false → nat_lt b a ≡ true
nat_lt-above a b below same = grind (arith, nat_tests)
