-- Readers of lists whose count is known, of parts that may be there, and of one of several variants.
use Rattle.std.specs.Prelude.{◌≡◌, ℕ, ◌==◌, List, [], ◌++◌, length, All, Ok, Option, None, Some}
use Rattle.std.specs.Int.{Width, w8}
use Rattle.ab_form.specs.declared.bad.Bad.TheVariants.{BadLength, BadField}
use Rattle.ab_form.specs.Readers.{Reader, ranged_at, made, after, many, either}
use Rattle.ab_form.specs.Formats.{IsWithin, u8_bytes, u16_bytes, spell_each}

-- no bytes, for this value
abbrev pub nothing : {A : Type 0} → A → Reader A
nothing x bytes = Ok (x, bytes)

-- a value, and one whose reader depends on it
abbrev pub along : {A B : Type 0} → Reader A → (A → Reader B) → Reader (A × B)
along r k bytes = after r (λ a. made (λ b. (a, b)) (k a)) bytes

-- n values of one reader
abbrev pub times : {A : Type 0} → Reader A → ℕ → Reader (List A)
times r n bytes = many (λ (_ : Unit {0}). r) (λ s _. s) n tt bytes

-- n values that each fit
abbrev pub AreTimes : {A : Type 0} → (A → Type 0) → ℕ → List A → Type 0
AreTimes Fits n xs = (length xs ≡ n) × All Fits xs

-- values behind their count, which is from low to high
abbrev pub counted : {A : Type 0} → Width → ℕ → ℕ → Reader A → Reader (List A)
counted w low high r bytes = after (ranged_at w low high BadLength) (times r) bytes

abbrev pub u8_list : {A : Type 0} → (A → List ℕ) → List A → List ℕ
u8_list spell xs = u8_bytes (length xs) ++ spell_each spell xs

abbrev pub u16_list : {A : Type 0} → (A → List ℕ) → List A → List ℕ
u16_list spell xs = u16_bytes (length xs) ++ spell_each spell xs

-- from low to high values that each fit
abbrev pub AreCounted : {A : Type 0} → ℕ → ℕ → (A → Type 0) → List A → Type 0
AreCounted low high Fits xs = IsWithin low high (length xs) × All Fits xs

-- ---- a part that is there by a flag

abbrev pub flag_of : {A : Type 0} → Option A → ℕ
flag_of None = 0
flag_of (Some x) = 1

abbrev pub spell_inside : {A : Type 0} → (A → List ℕ) → Option A → List ℕ
spell_inside spell None = []
spell_inside spell (Some x) = spell x

-- the byte 0, or the byte 1 and the part
abbrev pub optional_at : {A : Type 0} → Reader A → Reader (Option A)
optional_at r bytes = after (ranged_at w8 0 1 BadField) (λ flag. either (flag == 0) (nothing None) (made Some r)) bytes

abbrev pub spell_optional : {A : Type 0} → (A → List ℕ) → Option A → List ℕ
spell_optional spell o = u8_bytes (flag_of o) ++ spell_inside spell o

abbrev pub FitsInside : {A : Type 0} → (A → Type 0) → Option A → Type 0
FitsInside Fits None = Unit {0}
FitsInside Fits (Some x) = Fits x
