-- The texts of keys tell the parties.
use Rattle.std.proofs.Common.{◌≡◌, ℕ, ◌+◌, ◌*◌, ◌<◌, ◌^◌, IsTrue, List, ◌++◌, take, drop, refl, sym, ◌∙◌, ap, arith, get_or, append_assoc}
use Rattle.std.specs.Int.{w16, to_be_bytes, from_be_bytes}
use Rattle.std.proofs.lemmas.Bool.{ltb-true}
use Rattle.std.proofs.lemmas.Nat.{from_be_bytes-to_be_bytes_2}
use Rattle.std.proofs.lemmas.List.{append_cancel_left}
use Rattle.ab_num.specs.declared.party.Party.{Party}
use Rattle.ab_num.specs.declared.party.Party.TheVariants.{Replica, Client}
use Rattle.ab_num.specs.Bounds.{IsInBounds}
use Rattle.ab_keys.specs.Keys.{is_party, party_bytes, key_text}

-- the number of a party fits its two bytes
abbrev HasNumber : Party → Type 0
HasNumber (Replica r) = r < 2 ^ 16
HasNumber (Client c) = c < 2 ^ 16

has_number : (f clients : ℕ) → IsInBounds f clients → (p : Party) → IsTrue (is_party f clients p) → HasNumber p
has_number f clients bounds (Replica r) is = omega (arith, ltb-true r (3 * f + 1) is, bounds.few_faulty)
has_number f clients bounds (Client c) is = omega (arith, ltb-true c clients is, bounds.few_clients)

same_number : (m n : ℕ) → m < 2 ^ 16 → n < 2 ^ 16 → to_be_bytes w16 m ≡ to_be_bytes w16 n → m ≡ n
same_number m n lm ln e = sym (from_be_bytes-to_be_bytes_2 m lm) ∙ ap (from_be_bytes w16) e ∙ from_be_bytes-to_be_bytes_2 n ln

same_party : (a b : Party) → HasNumber a → HasNumber b → party_bytes a ≡ party_bytes b → a ≡ b
same_party (Replica r) (Replica s) lr ls e = ap Replica (same_number r s lr ls (ap (drop 1) e))
same_party (Client c) (Client d) lc ld e = ap Client (same_number c d lc ld (ap (drop 1) e))
same_party (Replica r) (Client d) lr ld e = absurd (let no : 0 ≡ 1 = ap (λ l. get_or l 0 0) e in omega (arith, no))
same_party (Client c) (Replica s) lc ls e = absurd (let no : 1 ≡ 0 = ap (λ l. get_or l 0 0) e in omega (arith, no))

first_three : (a : Party) (rest : List ℕ) → take 3 (party_bytes a ++ rest) ≡ party_bytes a
first_three (Replica r) rest = refl
first_three (Client c) rest = refl

after_three : (a : Party) (rest : List ℕ) → drop 3 (party_bytes a ++ rest) ≡ rest
after_three (Replica r) rest = refl
after_three (Client c) rest = refl

pub same_parties : (f clients : ℕ) → IsInBounds f clients → (seed : List ℕ) (a b c d : Party)
    → IsTrue (is_party f clients a) → IsTrue (is_party f clients b) → IsTrue (is_party f clients c) → IsTrue (is_party f clients d)
    → key_text seed a b ≡ key_text seed c d → (a ≡ c) × (b ≡ d)
unfolding key_text
same_parties f clients bounds seed a b c d a_in b_in c_in d_in e =
    let behind : party_bytes a ++ party_bytes b ≡ party_bytes c ++ party_bytes d
    = append_cancel_left seed (party_bytes a ++ party_bytes b) (party_bytes c ++ party_bytes d)
    (sym (append_assoc seed (party_bytes a) (party_bytes b)) ∙ e ∙ append_assoc seed (party_bytes c) (party_bytes d)) in (
      same_party a c (has_number f clients bounds a a_in) (has_number f clients bounds c c_in)
          (sym (first_three a (party_bytes b)) ∙ ap (take 3) behind ∙ first_three c (party_bytes d)),
      same_party b d (has_number f clients bounds b b_in) (has_number f clients bounds d d_in)
          (sym (after_three a (party_bytes b)) ∙ ap (drop 3) behind ∙ after_three c (party_bytes d)),
    )
