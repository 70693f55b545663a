-- The pieces of a message are pieces.
use Rattle.std.proofs.Common.{◌≡◌, ℕ, ◌+◌, ◌-◌, ◌*◌, ◌/◌, ◌<◌, ◌≤◌, ◌==◌, ◌&&◌, min, List, length, drop, Ok, Bool, true, false, if◌then◌else◌, refl, ap, ◌∙◌, eqb-true, arith}
use Rattle.std.specs.Prelude.{nat_le, nat_lt}
use Rattle.std.proofs.lemmas.Bool.{eq-eqb, eqb-false, le-leb, lt-ltb}
use Rattle.std.proofs.lemmas.List.{length-take, length-drop}
use Rattle.ab_num.specs.declared.party.Party.{Party}
use Rattle.ab_piece.specs.Pieces.{IsCut, body_fits, count_of, cut_at, part_at, piece_at, piece_of}
use Rattle.ab_piece.proofs.SpellLemmas.{piece_read}

pub part_size : (m : List ℕ) (i : ℕ) → length (part_at m i) ≡ min 8192 (length m - 8192 * i)
part_size m i = length-take 8192 (drop (8192 * i) m) ∙ ap (min 8192) (length-drop (8192 * i) m)

both_are : (a b : Bool) → a ≡ true → b ≡ true → a && b ≡ true
both_are true b e f = f
both_are false b e f = cc

fits_by : (m : List ℕ) (i : ℕ) → 1 ≤ length m → i < count_of (length m) → (b : Bool) → (i + 1 == count_of (length m)) ≡ b
    → (if b then nat_le 1 (length (part_at m i)) && nat_le (length (part_at m i)) 8192 else length (part_at m i) == 8192) ≡ true
fits_by m i some lt true e =
    let last : i + 1 ≡ (length m + 8191) / 8192 = eqb-true (i + 1) (count_of (length m)) e in
    let size = part_size m i in
    both_are (nat_le 1 (length (part_at m i))) (nat_le (length (part_at m i)) 8192) (le-leb 1 (length (part_at m i)) (omega (arith, size, last))) (le-leb (length (part_at m i)) 8192 (omega (arith, size)))
fits_by m i some lt false e =
    let size = part_size m i in
    let other : i + 1 ≡ (length m + 8191) / 8192 → ⊥ = eqb-false (i + 1) (count_of (length m)) e in
    eq-eqb (length (part_at m i)) 8192 (omega (arith, size, other, lt))

-- a part is a body
pub part_fits : (m : List ℕ) (i : ℕ) → 1 ≤ length m → i < count_of (length m) → body_fits i (count_of (length m)) (length (part_at m i)) ≡ true
part_fits m i some lt =
    both_are (nat_lt i (count_of (length m))) _ (lt-ltb i (count_of (length m)) lt) (fits_by m i some lt (i + 1 == count_of (length m)) refl)

pub cut_read : (s : Party) (n : ℕ) (m : List ℕ) (i : ℕ) → IsCut s n m → i < count_of (length m) → piece_of (cut_at s n m i) ≡ Ok (piece_at s n m i)
unfolding cut_at
cut_read s n m i cut lt =
    let few = cut.few in
    let some = cut.some in
    let count : count_of (length m) ≤ 512 = omega arith in
    piece_read (piece_at s n m i)
    (record { header = (cut.party, ((omega arith, omega (arith, cut.eight_bytes)), ((omega arith, omega arith), (omega arith, count)))); body = part_fits m i some lt })
