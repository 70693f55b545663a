-- What is read is within its bounds, whatever the bytes.
use Rattle.std.proofs.Common.{◌≡◌, inl, inr, ℕ, ◌+◌, ◌<◌, ◌≤◌, ◌==◌, ◌&&◌, List, length, Ok, Err, true, cond, if◌then◌else◌, subst, eqb-true, arith}
use Rattle.std.specs.Prelude.{nat_le, nat_lt}
use Rattle.std.specs.Int.{Width, w8, w16, w64}
use Rattle.std.proofs.lemmas.Bool.{and_parts, cases_Bool, leb-true, ltb-true}
use Rattle.ab_num.specs.declared.party.Party.{Party}
use Rattle.ab_num.specs.declared.party.Party.TheVariants.{Replica, Client}
use Rattle.ab_form.specs.declared.bad.Bad.{Bad}
use Rattle.ab_form.specs.declared.bad.Bad.TheVariants.{BadField, BadLength}
use Rattle.ab_form.specs.Readers.{Reader, ◌>>=◌, number_at, ranged_at, made, both, within}
use Rattle.ab_form.specs.Formats.{IsWithin}
use Rattle.ab_form.proofs.StepLemmas.{bind_ok, done_is, passed}
use Rattle.ab_msg.specs.Fields.{IsParty}
use Rattle.ab_content.specs.Parts.{numbered_at, party_at}
use Rattle.ab_piece.specs.Pieces.{Header, IsHeader, IsPiece, Piece, body_fits, body_size, header_at, header_from, piece_from, piece_of}

ranged_within : (w : Width) (low high : ℕ) (bad : Bad) (bytes : List ℕ) (x : ℕ × List ℕ) → ranged_at w low high bad bytes ≡ Ok x → IsWithin low high x.0
unfolding ranged_at
ranged_within w low high bad bytes x e =
    let a = bind_ok (number_at w bytes) (λ a. cond (within low high a.0) (Ok a) (Err bad)) x e in
    let g = passed (within low high a.0.0) bad a.0 x a.2 in
    let t = and_parts (nat_le low a.0.0) (nat_le a.0.0 high) g.0 in
    subst (λ (y : ℕ × List ℕ). IsWithin low high y.0) g.1 (leb-true low a.0.0 t.0, leb-true a.0.0 high t.1)

-- the value of another that was read
made_is : {A B : Type 0} (f : A → B) (r : Reader A) (bytes : List ℕ) (y : B × List ℕ) → made f r bytes ≡ Ok y → (x : A × List ℕ) × (r bytes ≡ Ok x) × ((f x.0, x.1) ≡ y)
made_is f r bytes y e = let a = bind_ok (r bytes) (λ a. Ok (f a.0, a.1)) y e in (a.0, a.1, done_is (f a.0.0, a.0.1) y a.2)

both_is : {A B : Type 0} (r : Reader A) (t : Reader B) (bytes : List ℕ) (y : (A × B) × List ℕ) → both r t bytes ≡ Ok y
    → (a : A × List ℕ) × (b : B × List ℕ) × (r bytes ≡ Ok a) × (t a.1 ≡ Ok b) × (((a.0, b.0), b.1) ≡ y)
both_is r t bytes y e =
    let a = bind_ok (r bytes) (λ a. t a.1 >>= λ b. Ok ((a.0, b.0), b.1)) y e in
    let b = bind_ok (t a.0.1) (λ b. Ok ((a.0.0, b.0), b.1)) y a.2 in
    (a.0, b.0, a.1, b.1, done_is ((a.0.0, b.0.0), b.0.1) y b.2)

numbered_within : (kind : ℕ) (bytes : List ℕ) (y : Party × List ℕ) → numbered_at kind bytes ≡ Ok y → IsParty y.0
numbered_within kind bytes y e =
    elim (cases_Bool (kind == 0)) [
      | inl holds ↦
          (let m = made_is Replica (ranged_at w16 0 6 BadField) bytes y (rw holds at e) in
          subst (λ (z : Party × List ℕ). IsParty z.0) m.2 (ranged_within w16 0 6 BadField bytes m.0 m.1))
      | inr fails ↦
          (let m = made_is Client (ranged_at w16 0 15 BadField) bytes y (rw fails at e) in
          subst (λ (z : Party × List ℕ). IsParty z.0) m.2 (ranged_within w16 0 15 BadField bytes m.0 m.1))
    ]

party_within : (bytes : List ℕ) (y : Party × List ℕ) → party_at bytes ≡ Ok y → IsParty y.0
unfolding party_at
party_within bytes y e = let a = bind_ok (ranged_at w8 0 1 BadField bytes) (λ a. numbered_at a.0 a.1) y e in numbered_within a.0.0 a.0.1 y a.2

abbrev number_reader : Reader ℕ
number_reader = ranged_at w64 0 18446744073709551615 BadField

abbrev index_reader : Reader ℕ
index_reader = ranged_at w16 0 65535 BadField

abbrev count_reader : Reader ℕ
count_reader = ranged_at w16 1 512 BadLength

counts_within : (bytes : List ℕ) (y : (ℕ × ℕ) × List ℕ) → both index_reader count_reader bytes ≡ Ok y → IsWithin 0 65535 y.0.0 × IsWithin 1 512 y.0.1
counts_within bytes y e =
    let i = both_is index_reader count_reader bytes y e in
    let parts : IsWithin 0 65535 i.0.0 × IsWithin 1 512 i.1.0 = (ranged_within w16 0 65535 BadField bytes i.0 i.2, ranged_within w16 1 512 BadLength i.0.1 i.1 i.3) in
    subst (λ (t : (ℕ × ℕ) × List ℕ). IsWithin 0 65535 t.0.0 × IsWithin 1 512 t.0.1) i.4 parts

numbers_within : (bytes : List ℕ) (y : (ℕ × (ℕ × ℕ)) × List ℕ) → both number_reader (both index_reader count_reader) bytes ≡ Ok y
    → IsWithin 0 18446744073709551615 y.0.0 × (IsWithin 0 65535 y.0.1.0 × IsWithin 1 512 y.0.1.1)
numbers_within bytes y e =
    let n = both_is number_reader (both index_reader count_reader) bytes y e in
    let parts : IsWithin 0 18446744073709551615 n.0.0 × (IsWithin 0 65535 n.1.0.0 × IsWithin 1 512 n.1.0.1) =
    (ranged_within w64 0 18446744073709551615 BadField bytes n.0 n.2, counts_within n.0.1 n.1 n.3) in
    subst (λ (t : (ℕ × (ℕ × ℕ)) × List ℕ). IsWithin 0 18446744073709551615 t.0.0 × (IsWithin 0 65535 t.0.1.0 × IsWithin 1 512 t.0.1.1)) n.4 parts

abbrev parts_reader : Reader (Party × (ℕ × (ℕ × ℕ)))
parts_reader = both party_at (both number_reader (both index_reader count_reader))

parts_within : (bytes : List ℕ) (y : (Party × (ℕ × (ℕ × ℕ))) × List ℕ) → parts_reader bytes ≡ Ok y → IsHeader (header_from y.0)
parts_within bytes y e =
    let p = both_is party_at (both number_reader (both index_reader count_reader)) bytes y e in
    let parts : IsHeader (header_from (p.0.0, p.1.0)) = (party_within bytes p.0 p.2, numbers_within p.0.1 p.1 p.3) in
    subst (λ (t : (Party × (ℕ × (ℕ × ℕ))) × List ℕ). IsHeader (header_from t.0)) p.4 parts

header_within : (bytes : List ℕ) (y : Header × List ℕ) → header_at bytes ≡ Ok y → IsHeader y.0
unfolding header_at
header_within bytes y e =
    let mark = bind_ok (ranged_at w8 1 1 BadField bytes) (λ a. made header_from parts_reader a.1) y e in
    let m = made_is header_from parts_reader mark.0.1 y mark.2 in
    subst (λ (t : Header × List ℕ). IsHeader t.0) m.2 (parts_within mark.0.1 m.0 m.1)

-- a piece that is read is of the grammar
pub piece_within : (bytes : List ℕ) (p : Piece) → piece_of bytes ≡ Ok p → IsPiece p
unfolding piece_of
piece_within bytes p e =
    let read = bind_ok (header_at bytes) (λ h. cond (body_fits h.0.index h.0.count (length h.1)) (Ok (piece_from h.0 h.1)) (Err BadLength)) p e in
    let pass = passed (body_fits read.0.0.index read.0.0.count (length read.0.1)) BadLength (piece_from read.0.0 read.0.1) p read.2 in
    subst IsPiece pass.1 (record { header = header_within bytes read.0 read.1; body = pass.0 })

-- the index of a piece is below its count
pub index_below : (p : Piece) → IsPiece p → p.index < p.count
index_below p is = let t = and_parts (nat_lt p.index p.count) (if p.index + 1 == p.count then nat_le 1 (length p.body) && nat_le (length p.body) body_size else length p.body == body_size) is.body in ltb-true p.index p.count t.0

-- no body has more than 8,192 bytes
pub body_short : (p : Piece) → IsPiece p → length p.body ≤ 8192
body_short p is =
    let t = and_parts (nat_lt p.index p.count) (if p.index + 1 == p.count then nat_le 1 (length p.body) && nat_le (length p.body) body_size else length p.body == body_size) is.body in
    elim (cases_Bool (p.index + 1 == p.count)) [
      | inl last ↦
          (let both_hold : nat_le 1 (length p.body) && nat_le (length p.body) 8192 ≡ true = rw last at t.1 in
          leb-true (length p.body) 8192 (and_parts (nat_le 1 (length p.body)) (nat_le (length p.body) 8192) both_hold).1)
      | inr full ↦ (let size : (length p.body == 8192) ≡ true = rw full at t.1 in let e = eqb-true (length p.body) 8192 size in omega arith)
    ]
