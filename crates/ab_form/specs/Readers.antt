-- Readers of bytes, from left to right, and how they are put together.
use Rattle.std.specs.Prelude.{◌≡◌, ℕ, zero, suc, List, [], ◌∷◌, length, take, drop, Result, Ok, Err, Bool, nat_lt, nat_le, ◌==◌, ◌&&◌, if◌then◌else◌}
use Rattle.std.specs.Int.{Width, w8, byte_len, from_be_bytes}
use Rattle.ab_form.specs.declared.bad.Bad.{Bad}
use Rattle.ab_form.specs.declared.bad.Bad.TheVariants.{Short, BadLength, Trailing}

-- the next step, unless there was a defect
infixl 10 ◌>>=◌
abbrev pub ◌>>=◌ : {A B : Type 0} → Result A Bad → (A → Result B Bad) → Result B Bad
(Ok x) >>= f = f x
(Err e) >>= f = Err e

-- what a function returned, seen by view, is what reading gives
abbrev pub Gives : {X Y : Type 0} → (X → Y) → Result X Bad → Result Y Bad → Type 0
Gives view (Ok x) read = read ≡ Ok (view x)
Gives view (Err e) read = read ≡ Err e

-- a reader gives a value and the bytes behind it, or the first defect
abbrev pub Reader : Type 0 → Type 0
Reader A = List ℕ → Result (A × List ℕ) Bad

-- ---- parts

-- a number of this width
abbrev pub number_at : Width → Reader ℕ
number_at w bytes =
    if nat_lt (length bytes) (byte_len w) then Err Short
    else Ok (from_be_bytes w (take (byte_len w) bytes), drop (byte_len w) bytes)

-- this many bytes
abbrev pub bytes_at : ℕ → Reader (List ℕ)
bytes_at n bytes = if nat_lt (length bytes) n then Err Short else Ok (take n bytes, drop n bytes)

-- ---- how they are put together

-- a value that passes a test, and otherwise this defect
abbrev pub checked : {A : Type 0} → (A → Bool) → Bad → Reader A → Reader A
checked test bad r bytes = r bytes >>= λ a. if test a.0 then Ok a else Err bad

-- the same bytes for another value
abbrev pub made : {A B : Type 0} → (A → B) → Reader A → Reader B
made f r bytes = r bytes >>= λ a. Ok (f a.0, a.1)

-- a value whose reader depends on the value before it, as bytes behind their count
abbrev pub after : {A B : Type 0} → Reader A → (A → Reader B) → Reader B
after r k bytes = r bytes >>= λ a. k a.0 a.1

-- one after the other
abbrev pub both : {A B : Type 0} → Reader A → Reader B → Reader (A × B)
both r s bytes = r bytes >>= λ a. s a.1 >>= λ b. Ok ((a.0, b.0), b.1)

-- n values, where what is read next depends on what was read before
abbrev pub many : {S A : Type 0} → (S → Reader A) → (S → A → S) → ℕ → S → Reader (List A)
many item next zero s bytes = Ok ([], bytes)
many item next (suc n) s bytes =
    item s bytes >>= λ a. many item next n (next s a.0) a.1 >>= λ more. Ok (a.0 ∷ more.0, more.1)

-- what n values of this reader are at the front of the bytes, as far as it reads any
unfoldable pub listed : {A : Type 0} → Reader A → ℕ → List ℕ → List A
listed r zero bytes = []
listed r (suc n) bytes = elim (r bytes) [ Ok a ↦ a.0 ∷ listed r n a.1 | Err e ↦ [] ]

-- one of two, by a test
abbrev pub either : {A : Type 0} → Bool → Reader A → Reader A → Reader A
either test r s bytes = if test then r bytes else s bytes

-- nothing
abbrev pub never : {A : Type 0} → Bad → Reader A
never bad bytes = Err bad

-- ---- parts with bounds

abbrev pub within : ℕ → ℕ → ℕ → Bool
within low high n = nat_le low n && nat_le n high

-- a number from low to high
unfoldable pub ranged_at : Width → ℕ → ℕ → Bad → Reader ℕ
ranged_at w low high bad bytes = checked (within low high) bad (number_at w) bytes

-- what stands behind this byte, and where another one is, this defect
abbrev pub marked : {A : Type 0} → ℕ → Bad → Reader A → Reader A
marked n bad r bytes = ranged_at w8 n n bad bytes >>= λ a. r a.1

-- bytes behind their length, which is from low to high
unfoldable pub text_at : Width → ℕ → ℕ → Reader (List ℕ)
text_at w low high bytes = after (ranged_at w low high BadLength) bytes_at bytes

-- ---- the whole

-- the value, and nothing behind it
abbrev pub whole : {A : Type 0} → Reader A → List ℕ → Result A Bad
whole r bytes = r bytes >>= λ a. if length a.1 == 0 then Ok a.0 else Err Trailing
