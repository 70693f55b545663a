-- The laws of the parts.
use Rattle.std.proofs.Common.{◌≡◌, ℕ, ◌+◌, ◌^◌, ◌%◌, ◌<◌, ◌≤◌, true, false, ltb, leb, List, [], ◌∷◌, ◌++◌, length, get_or, take, drop, refl, sym, ap, subst, arith, inl, inr}
use Rattle.std.specs.Int.{Width, w8, w16, w32, w64, byte_len, from_be_bytes, to_be_bytes}
use Rattle.std.proofs.lemmas.Bool.{cases_lt, ltb-false, le-ltb, leb-true, le-leb, and_parts}
use Rattle.std.proofs.lemmas.List.{take_at, drop_at, take-append-drop, length-append, length-take, get_or-drop, get_or-take, get_or_past}
use Rattle.std.proofs.lemmas.Nat.{be_bytes_2, be_bytes_4, be_bytes_8, from_be_bytes-to_be_bytes_2, from_be_bytes-to_be_bytes_4, from_be_bytes-to_be_bytes_8}
use Rattle.std.proofs.Math.Nat.{mod-eq_of_lt}
use Rattle.ab_form.specs.declared.bad.Bad.{Bad}
use Rattle.ab_form.specs.declared.bad.Bad.TheVariants.{Short, BadLength}
use Rattle.ab_form.specs.Readers.{Reader, number_at, bytes_at, ranged_at, text_at, within, many, after, marked}
use Rattle.ab_form.specs.Formats.{IsBytes, Takes, Stays, IsFormat, IsWithin, u8_bytes, u16_bytes, u32_bytes, u64_bytes, u8_text, u16_text, spell_each, EachFits}
use Rattle.ab_form.proofs.StepLemmas.{refused}
use Rattle.ab_form.proofs.FormatLemmas.{format, front-stays, checked-format, same-format, after-format, behind-format, many-stays, many-format, checked-stays}

IsBytes-drop : (n : ℕ) (bytes : List ℕ) → IsBytes bytes → IsBytes (drop n bytes)
IsBytes-drop n bytes h i = rw get_or-drop (h (n + i))

IsBytes-take : (n : ℕ) (bytes : List ℕ) → IsBytes bytes → IsBytes (take n bytes)
IsBytes-take n bytes h i =
    elim (cases_lt i n) [
      | inl lt ↦ rw (get_or-take n bytes i 0 lt) (h i)
      | inr le ↦ rw (get_or_past (take n bytes) i 0 (omega (arith, length-take n bytes))) (omega arith)
    ]

-- ---- numbers

pub record IsWide (w : Width) (limit : ℕ) : Type 0 where
  pub len : (n : ℕ) → length (to_be_bytes w n) ≡ byte_len w
  pub back : (bytes : List ℕ) → length bytes ≡ byte_len w → IsBytes bytes → to_be_bytes w (from_be_bytes w bytes) ≡ bytes
  pub again : (n : ℕ) → n < limit → from_be_bytes w (to_be_bytes w n) ≡ n
  pub below : (bytes : List ℕ) → IsBytes bytes → from_be_bytes w bytes < limit

one-byte : (bytes : List ℕ) → length bytes ≡ 1 → IsBytes bytes → get_or bytes 0 0 % 256 ∷ [] ≡ bytes
one-byte [] len fits = (let bad : 0 ≡ 1 = len in absurd (omega arith))
one-byte (b ∷ []) len fits = ap (λ (x : ℕ). x ∷ []) (mod-eq_of_lt (fits 0))
one-byte (b ∷ c ∷ rest) len fits = absurd (omega arith)

pub wide8 : IsWide w8 (2 ^ 8)
wide8 = record {
  len = λ n. refl;
  back = λ bytes len fits. one-byte bytes len fits;
  again = λ n lt. mod-eq_of_lt lt;
  below = λ bytes fits. fits 0;
}

pub wide16 : IsWide w16 (2 ^ 16)
wide16 = record {
  len = λ n. refl;
  back = λ bytes len fits. be_bytes_2 bytes _ len fits refl;
  again = λ n lt. from_be_bytes-to_be_bytes_2 n lt;
  below = λ bytes fits. omega (arith, fits 0, fits 1);
}

pub wide32 : IsWide w32 (2 ^ 32)
wide32 = record {
  len = λ n. refl;
  back = λ bytes len fits. be_bytes_4 bytes _ len fits refl;
  again = λ n lt. from_be_bytes-to_be_bytes_4 n lt;
  below = λ bytes fits. omega (arith, fits 0, fits 1, fits 2, fits 3);
}

pub wide64 : IsWide w64 (2 ^ 64)
wide64 = record {
  len = λ n. refl;
  back = λ bytes len fits. be_bytes_8 bytes _ len fits refl;
  again = λ n lt. from_be_bytes-to_be_bytes_8 n lt;
  below = λ bytes fits. omega (arith, fits 0, fits 1, fits 2, fits 3, fits 4, fits 5, fits 6, fits 7);
}

pub number-format : (w : Width) (limit : ℕ) → IsWide w limit → IsFormat (number_at w) (to_be_bytes w) (λ n. n < limit)
number-format w limit wide = format (number_at w) (to_be_bytes w) (λ n. n < limit)
    (λ bytes rest n fits e.
    let g = refused (ltb (length bytes) (byte_len w)) Short (from_be_bytes w (take (byte_len w) bytes), drop (byte_len w) bytes) (n, rest) e in
    let long : byte_len w ≤ length bytes = ltb-false _ _ g.0 in
    let n-is : from_be_bytes w (take (byte_len w) bytes) ≡ n = ap (λ (p : ℕ × List ℕ). p.0) g.1 in
    let rest-is : drop (byte_len w) bytes ≡ rest = ap (λ (p : ℕ × List ℕ). p.1) g.1 in
    let part : to_be_bytes w n ≡ take (byte_len w) bytes = rw (← n-is) (wide.back (take (byte_len w) bytes) (omega (arith, length-take (byte_len w) bytes)) (IsBytes-take (byte_len w) bytes fits)) in
    (record { parts = rw (part, ← rest-is) (sym (take-append-drop (byte_len w) bytes)); rest_fits = rw (← rest-is) (IsBytes-drop (byte_len w) bytes fits) }, rw (← n-is) (wide.below (take (byte_len w) bytes) (IsBytes-take (byte_len w) bytes fits))))
    (λ n rest lt.
    let len = wide.len n in
    let long : ltb (length (to_be_bytes w n ++ rest)) (byte_len w) ≡ false = le-ltb _ _ (omega (arith, length-append (to_be_bytes w n) rest)) in
    rw (long, take_at (to_be_bytes w n) rest (byte_len w) len, drop_at (to_be_bytes w n) rest (byte_len w) len, wide.again n lt) refl)
    (front-stays (byte_len w) (from_be_bytes w))

pub ranged-stays : (w : Width) (low high : ℕ) (bad : Bad) → Stays (ranged_at w low high bad)
unfolding ranged_at
ranged-stays w low high bad = checked-stays (within low high) bad (number_at w) (front-stays (byte_len w) (from_be_bytes w))

within_both : (low high n : ℕ) → IsWithin low high n → within low high n ≡ true
within_both low high n h = rw (le-leb low n h.0, le-leb n high h.1) refl

both_within : (low high n : ℕ) → within low high n ≡ true → IsWithin low high n
both_within low high n h = (let p = and_parts (leb low n) (leb n high) h in (leb-true low n p.0, leb-true n high p.1))

pub ranged-format : (w : Width) (limit low high : ℕ) (bad : Bad) → IsWide w limit → high < limit → IsFormat (ranged_at w low high bad) (to_be_bytes w) (IsWithin low high)
unfolding ranged_at
ranged-format w limit low high bad wide lt =
    same-format (ranged_at w low high bad) (to_be_bytes w) (λ n. (within low high n ≡ true) × (n < limit)) (IsWithin low high)
    (λ n h. both_within low high n h.0) (λ n h. (within_both low high n h, omega arith))
    (checked-format (within low high) bad (number_at w) (to_be_bytes w) (λ n. n < limit) (number-format w limit wide))

-- a number from low to high, by its width
pub u8-format : (low high : ℕ) (bad : Bad) → high < 2 ^ 8 → IsFormat (ranged_at w8 low high bad) u8_bytes (IsWithin low high)
unfolding u8_bytes
u8-format low high bad lt = ranged-format w8 (2 ^ 8) low high bad wide8 lt

pub u16-format : (low high : ℕ) (bad : Bad) → high < 2 ^ 16 → IsFormat (ranged_at w16 low high bad) u16_bytes (IsWithin low high)
unfolding u16_bytes
u16-format low high bad lt = ranged-format w16 (2 ^ 16) low high bad wide16 lt

pub u32-format : (low high : ℕ) (bad : Bad) → high < 2 ^ 32 → IsFormat (ranged_at w32 low high bad) u32_bytes (IsWithin low high)
unfolding u32_bytes
u32-format low high bad lt = ranged-format w32 (2 ^ 32) low high bad wide32 lt

pub u64-format : (low high : ℕ) (bad : Bad) → high < 2 ^ 64 → IsFormat (ranged_at w64 low high bad) u64_bytes (IsWithin low high)
unfolding u64_bytes
u64-format low high bad lt = ranged-format w64 (2 ^ 64) low high bad wide64 lt

-- what stands behind a byte that is known
pub marked-format : {A : Type 0} (n : ℕ) (bad : Bad) (r : Reader A) (s : A → List ℕ) (F : A → Type 0) → n < 2 ^ 8 → IsFormat r s F → IsFormat (marked n bad r) (λ x. u8_bytes n ++ s x) F
marked-format n bad r s F lt one = behind-format n (ranged_at w8 n n bad) u8_bytes (IsWithin n n) r s F (λ a h. omega arith) (omega arith, omega arith) (u8-format n n bad lt) one

-- any byte, as a code that is looked at later
pub code-format : IsFormat (number_at w8) u8_bytes (λ n. n < 2 ^ 8)
unfolding u8_bytes
code-format = number-format w8 (2 ^ 8) wide8

-- ---- bytes

pub bytes-format : (n : ℕ) → IsFormat (bytes_at n) (λ text. text) (λ text. length text ≡ n)
bytes-format n = format (bytes_at n) (λ text. text) (λ text. length text ≡ n)
    (λ bytes rest text fits e.
    let g = refused (ltb (length bytes) n) Short (take n bytes, drop n bytes) (text, rest) e in
    let long : n ≤ length bytes = ltb-false _ _ g.0 in
    let P : List ℕ × List ℕ → Type 0 = λ p. Takes bytes p.0 p.1 × (length p.0 ≡ n) in
    subst P g.1 (record { parts = sym (take-append-drop n bytes); rest_fits = IsBytes-drop n bytes fits }, omega (arith, length-take n bytes)))
    (λ text rest len.
    let long : ltb (length (text ++ rest)) n ≡ false = le-ltb _ _ (omega (arith, length-append text rest)) in
    rw (long, take_at text rest n len, drop_at text rest n len) refl)
    (front-stays n (λ text. text))

-- bytes behind their length, by its width
pub u8_text-format : (low high : ℕ) → high < 2 ^ 8 → IsFormat (text_at w8 low high) u8_text (λ text. IsWithin low high (length text))
unfolding text_at
u8_text-format low high lt =
    same-format _ u8_text (λ text. IsWithin low high (length text) × Unit {0}) _ (λ text h. h.0) (λ text h. (h, tt))
    (after-format length _ u8_bytes (IsWithin low high) bytes_at (λ text. text) (λ text. Unit {0}) (u8-format low high BadLength lt)
    (λ n _. same-format (bytes_at n) (λ text. text) _ _ (λ text h. (h, tt)) (λ text h. h.0) (bytes-format n))
    (λ n. front-stays n (λ text. text)))

pub u16_text-format : (low high : ℕ) → high < 2 ^ 16 → IsFormat (text_at w16 low high) u16_text (λ text. IsWithin low high (length text))
unfolding text_at
u16_text-format low high lt =
    same-format _ u16_text (λ text. IsWithin low high (length text) × Unit {0}) _ (λ text h. h.0) (λ text h. (h, tt))
    (after-format length _ u16_bytes (IsWithin low high) bytes_at (λ text. text) (λ text. Unit {0}) (u16-format low high BadLength lt)
    (λ n _. same-format (bytes_at n) (λ text. text) _ _ (λ text h. (h, tt)) (λ text h. h.0) (bytes-format n))
    (λ n. front-stays n (λ text. text)))

-- ---- lists behind their count

pub u8_list-format : {S A : Type 0} (low high : ℕ) (item : S → Reader A) (next : S → A → S) (s : A → List ℕ) (F : S → A → Type 0) (state : S)
    → high < 2 ^ 8 → ((t : S) → IsFormat (item t) s (F t))
    → IsFormat (after (ranged_at w8 low high BadLength) (λ n. many item next n state)) (λ xs. u8_bytes (length xs) ++ spell_each s xs) (λ xs. IsWithin low high (length xs) × EachFits F next state xs)
u8_list-format low high item next s F state lt one =
    after-format length _ u8_bytes (IsWithin low high) (λ n. many item next n state) (spell_each s) (EachFits F next state) (u8-format low high BadLength lt) (λ n _. many-format item next s F one n state)
    (λ n. many-stays item next (λ t. (one t).stays) n state)

pub u16_list-format : {S A : Type 0} (low high : ℕ) (item : S → Reader A) (next : S → A → S) (s : A → List ℕ) (F : S → A → Type 0) (state : S)
    → high < 2 ^ 16 → ((t : S) → IsFormat (item t) s (F t))
    → IsFormat (after (ranged_at w16 low high BadLength) (λ n. many item next n state)) (λ xs. u16_bytes (length xs) ++ spell_each s xs) (λ xs. IsWithin low high (length xs) × EachFits F next state xs)
u16_list-format low high item next s F state lt one =
    after-format length _ u16_bytes (IsWithin low high) (λ n. many item next n state) (spell_each s) (EachFits F next state) (u16-format low high BadLength lt) (λ n _. many-format item next s F one n state)
    (λ n. many-stays item next (λ t. (one t).stays) n state)

-- ---- how long spellings are

pub length-u8_bytes : (n : ℕ) → length (u8_bytes n) ≡ 1
unfolding u8_bytes
length-u8_bytes n = refl

pub length-u16_bytes : (n : ℕ) → length (u16_bytes n) ≡ 2
unfolding u16_bytes
length-u16_bytes n = refl

pub length-u32_bytes : (n : ℕ) → length (u32_bytes n) ≡ 4
unfolding u32_bytes
length-u32_bytes n = refl

pub length-u64_bytes : (n : ℕ) → length (u64_bytes n) ≡ 8
unfolding u64_bytes
length-u64_bytes n = refl
