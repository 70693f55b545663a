-- Formats: a reader, the one spelling of each value, and which values have one.
use Rattle.std.specs.Prelude.{◌≡◌, ◌≢◌, ℕ, ◌<◌, ◌≤◌, List, [], ◌∷◌, ◌++◌, length, slice_index, Result, Ok, Err}
use Rattle.std.specs.Int.{w8, w16, w32, w64, to_be_bytes}
use Rattle.ab_form.specs.declared.bad.Bad.{Bad}
use Rattle.ab_form.specs.declared.bad.Bad.TheVariants.{Short, Trailing}
use Rattle.ab_form.specs.Readers.{Reader}

abbrev pub IsBytes : List ℕ → Type 0
IsBytes bytes = (i : ℕ) → slice_index bytes i < 256

-- what a reader took from the front
pub record Takes (bytes text rest : List ℕ) : Type 0 where
  pub parts : bytes ≡ text ++ rest
  pub rest_fits : IsBytes rest

-- the same value with more bytes behind it, or the same defect
abbrev pub with_more : {A : Type 0} → List ℕ → Result (A × List ℕ) Bad → Result (A × List ℕ) Bad
with_more more (Ok a) = Ok (a.0, a.1 ++ more)
with_more more (Err e) = Err e

-- but where the bytes end too early, more bytes behind them change nothing
abbrev pub Stays : {A : Type 0} → Reader A → Type 0
Stays read = (bytes more : List ℕ) → read bytes ≢ Err Short → read (bytes ++ more) ≡ with_more more (read bytes)

-- What is read is spelled so and fits. What fits is read where its spelling stands, whatever follows it.
-- Where a spelling is cut off, the bytes are too short. What was found at the front stays as it is.
pub record IsFormat {A : Type 0} (read : Reader A) (spell : A → List ℕ) (Fits : A → Type 0) : Type 0 where
  pub takes : (bytes rest : List ℕ) (x : A) → IsBytes bytes → read bytes ≡ Ok (x, rest) → Takes bytes (spell x) rest × Fits x
  pub again : (x : A) (rest : List ℕ) → Fits x → read (spell x ++ rest) ≡ Ok (x, rest)
  pub short : (x : A) (front back : List ℕ) → Fits x → front ++ back ≡ spell x → back ≢ [] → read front ≡ Err Short
  pub stays : Stays read

-- The same of a reader that wants nothing behind the value.
pub record IsWhole {A : Type 0} (read : List ℕ → Result A Bad) (spell : A → List ℕ) (Fits : A → Type 0) : Type 0 where
  pub takes : (bytes : List ℕ) (x : A) → IsBytes bytes → read bytes ≡ Ok x → (bytes ≡ spell x) × Fits x
  pub again : (x : A) → Fits x → read (spell x) ≡ Ok x
  pub one : (x y : A) → Fits x → Fits y → spell x ≡ spell y → x ≡ y
  pub short : (x : A) (front back : List ℕ) → Fits x → front ++ back ≡ spell x → back ≢ [] → read front ≡ Err Short
  pub trailing : (x : A) (more : List ℕ) → Fits x → more ≢ [] → read (spell x ++ more) ≡ Err Trailing
  pub stays : (bytes more : List ℕ) (bad : Bad) → read bytes ≡ Err bad → bad ≢ Short → read (bytes ++ more) ≡ Err bad

-- ---- spellings

-- a number, big-endian
unfoldable pub u8_bytes : ℕ → List ℕ
u8_bytes n = to_be_bytes w8 n

unfoldable pub u16_bytes : ℕ → List ℕ
u16_bytes n = to_be_bytes w16 n

unfoldable pub u32_bytes : ℕ → List ℕ
u32_bytes n = to_be_bytes w32 n

unfoldable pub u64_bytes : ℕ → List ℕ
u64_bytes n = to_be_bytes w64 n

-- a text behind its length
abbrev pub u8_text : List ℕ → List ℕ
u8_text text = u8_bytes (length text) ++ text

abbrev pub u16_text : List ℕ → List ℕ
u16_text text = u16_bytes (length text) ++ text

-- each in turn
abbrev pub spell_each : {A : Type 0} → (A → List ℕ) → List A → List ℕ
spell_each spell [] = []
spell_each spell (x ∷ xs) = spell x ++ spell_each spell xs

-- ---- what fits

abbrev pub IsWithin : ℕ → ℕ → ℕ → Type 0
IsWithin low high n = (low ≤ n) × (n ≤ high)

-- each fits where those before it have led
abbrev pub EachFits : {S A : Type 0} → (S → A → Type 0) → (S → A → S) → S → List A → Type 0
EachFits Fits next s [] = Unit {0}
EachFits Fits next s (x ∷ xs) = Fits s x × EachFits Fits next (next s x) xs
