-- What is read as the bytes of a message is their text in lower case.
use Rattle.std.proofs.Common.{◌≡◌, ℕ, ◌≤◌, ◌<◌, List, true, Option, None, Some, Result, Ok, Err, ◌⊎◌, All, length, refl, sym, ap, ◌∙◌, subst, if◌then◌else◌}
use Rattle.std.proofs.lemmas.Bool.{and_parts, le-leb, leb-true}
use Rattle.std.proofs.lemmas.Grind.{get_or_default_zero}
use Rattle.std.proofs.lemmas.Option.{cond_some, none-some}
use Rattle.std.proofs.lemmas.Slice.Eq.{bytes_eq-Decides}
use Rattle.std.specs.Prelude.{nat_le, ◌&&◌}
use Rattle.std.specs.Str.{bytes_eq}
use Rattle.hex.specs.declared.error.FromHexError.{FromHexError}
use Rattle.hex.specs.declared.error.FromHexError.TheVariants.{OutOfMemory}
use Rattle.hex.specs.Hex.{decode_of, encode_lower}
use Rattle.hex.proofs.HexLemmas.{decode_of-ok}
use Rattle.ab_text.specs.EventLines.{IsInjected}
use Rattle.ab_text.specs.HexDigits.{IsLowerDigit}
use Rattle.ab_text.proofs.HexLemmas.{decoded_spelled, decodes, digits_of, refused}
use Rattle.ab_text.specs.HexBytes.{in_lower_case}
use Rattle.ab_audit_text.specs.Texts.{is_sized, message_bytes, sized}

sized_is : (bytes : List ℕ) → IsInjected bytes → is_sized bytes ≡ true
sized_is bytes good = λ j. le-leb 1 (length bytes) good.some j && le-leb (length bytes) 4194304 good.few j

-- the bytes are read from their text
pub bytes_read : (text bytes : List ℕ) → IsInjected bytes → text ≡ encode_lower bytes → message_bytes text ≡ Some bytes
unfolding message_bytes
bytes_read text bytes good is =
    ap (λ r. sized (in_lower_case text r)) (decodes text bytes good is)
    ∙ ap (λ b. sized (if b then Some bytes else None)) ((bytes_eq-Decides text (encode_lower bytes)).1 is)
    ∙ ap (λ b. if b then Some bytes else None) (sized_is bytes good)

sized_was : (o : Option (List ℕ)) (b : List ℕ) → sized o ≡ Some b → (o ≡ Some b) × (is_sized b ≡ true)
sized_was None b h = absurd (none-some b h)
sized_was (Some x) b h = (let both = cond_some (is_sized x) x b h in (ap Some both.1, subst (λ y. is_sized y ≡ true) both.1 both.0))

-- what is read was their text
pub bytes_were : (text b : List ℕ) → message_bytes text ≡ Some b → (text ≡ encode_lower b) × IsInjected b
unfolding message_bytes
bytes_were text b h = go (decode_of text) refl h where
  go : (r : Result (List ℕ) FromHexError) → decode_of text ≡ r → sized (in_lower_case text r) ≡ Some b → (text ≡ encode_lower b) × IsInjected b
  go (Err e) is k = absurd (none-some b k)
  go (Ok x) is k =
      let whole = sized_was (in_lower_case text (Ok x)) b k in
      let both = cond_some (bytes_eq text (encode_lower x)) x b whole.0 in
      let bounds = and_parts (nat_le 1 (length b)) (nat_le (length b) 4194304) whole.1 in
      let ok = decode_of-ok text x is in
      let small : All (λ c. c < 256) x = λ i d lt. subst (λ c. c < 256) (sym (get_or_default_zero x i d lt)) (ok.3 i) in (
        (bytes_eq-Decides text (encode_lower x)).0 both.0 ∙ ap encode_lower both.1,
        record { some = leb-true 1 (length b) bounds.0; few = leb-true (length b) 4194304 bounds.1; small = subst (All (λ c. c < 256)) both.1 small },
      )

unread : (o : Option (List ℕ)) → ((b : List ℕ) → o ≡ Some b → ⊥) → None ≡ o
unread None never = refl
unread (Some b) never = absurd (never b refl)

-- ---- what the function finds

pub not_digits : (text : List ℕ) → ((1 ≤ length text) × (length text ≤ 8388608) × All IsLowerDigit text → ⊥) → None ≡ message_bytes text
not_digits text other = unread (message_bytes text) (λ b h. let were = bytes_were text b h in other (digits_of text b were.1 were.0))

pub digits_read : (text bytes : List ℕ) → (1 ≤ length text) × (length text ≤ 8388608) × All IsLowerDigit text → decode_of text ≡ Ok bytes → Some bytes ≡ message_bytes text
digits_read text bytes digits h = let both = decoded_spelled text bytes digits.0 digits.1 digits.2 h in sym (bytes_read text bytes both.0 both.1)

pub not_decoded : (text : List ℕ) (e : FromHexError) → (e ≡ OutOfMemory) ⊎ (decode_of text ≡ Err e) → (e ≡ OutOfMemory → ⊥) → None ≡ message_bytes text
not_decoded text e why other = unread (message_bytes text) (λ b h. let were = bytes_were text b h in refused text b e were.1 were.0 why other)
