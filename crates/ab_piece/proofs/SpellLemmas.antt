-- Pieces that are spelled and read.
use Rattle.std.proofs.Common.{◌≡◌, ℕ, List, length, Result, Ok, Err, cond, refl, subst, lit<}
use Rattle.std.specs.Int.{w16, w64}
use Rattle.ab_num.specs.declared.party.Party.{Party}
use Rattle.ab_form.specs.declared.bad.Bad.{Bad}
use Rattle.ab_form.specs.declared.bad.Bad.TheVariants.{BadField, BadLength}
use Rattle.ab_form.specs.Readers.{ranged_at}
use Rattle.ab_form.specs.Formats.{IsBytes, IsFormat, IsWithin, u16_bytes, u64_bytes}
use Rattle.ab_form.proofs.FormatLemmas.{both-format, made-format}
use Rattle.ab_form.proofs.PartLemmas.{marked-format, u16-format, u64-format}
use Rattle.ab_form.proofs.StepLemmas.{bind_ok, passed}
use Rattle.ab_msg.specs.Fields.{IsParty, spell_party}
use Rattle.ab_content.specs.Parts.{party_at}
use Rattle.ab_content.proofs.PartLemmas.{party-format}
use Rattle.ab_piece.specs.Pieces.{Header, IsHeader, IsPiece, Piece, body_fits, header_at, header_from, header_of, piece_from, piece_of, spell_header, spell_piece}

abbrev parts_of : Header → Party × (ℕ × (ℕ × ℕ))
parts_of h = (h.sender, (h.number, (h.index, h.count)))

-- what stands before a body is a format
pub header-format : IsFormat header_at spell_header IsHeader
unfolding header_at
header-format =
    marked-format 1 BadField _ _ IsHeader (lit< tt)
    (made-format header_from parts_of _ _ _ (λ t. refl) (λ h. refl)
    (both-format party_at spell_party IsParty _ _ _ party-format
    (both-format (ranged_at w64 0 18446744073709551615 BadField) u64_bytes (IsWithin 0 18446744073709551615) _ _ _ (u64-format 0 18446744073709551615 BadField (lit< tt))
    (both-format (ranged_at w16 0 65535 BadField) u16_bytes (IsWithin 0 65535) (ranged_at w16 1 512 BadLength) u16_bytes (IsWithin 1 512) (u16-format 0 65535 BadField (lit< tt)) (u16-format 1 512 BadLength (lit< tt))))))

abbrev rest_of : Header × List ℕ → Result Piece Bad
rest_of h = cond (body_fits h.0.index h.0.count (length h.1)) (Ok (piece_from h.0 h.1)) (Err BadLength)

-- a piece is spelled as it was read
pub piece_spelled : (bytes : List ℕ) (p : Piece) → IsBytes bytes → piece_of bytes ≡ Ok p → (bytes ≡ spell_piece p) × IsPiece p
unfolding piece_of
piece_spelled bytes p fits e =
    let read = bind_ok (header_at bytes) rest_of p e in
    let pass = passed (body_fits read.0.0.index read.0.0.count (length read.0.1)) BadLength (piece_from read.0.0 read.0.1) p read.2 in
    let taken = header-format.takes bytes read.0.1 read.0.0 fits read.1 in
    subst (λ (q : Piece). (bytes ≡ spell_piece q) × IsPiece q) pass.1 (taken.0.parts, record { header = taken.1; body = pass.0 })

-- a piece is read as it was spelled
pub piece_read : (p : Piece) → IsPiece p → piece_of (spell_piece p) ≡ Ok p
unfolding piece_of
piece_read p is = let head = header-format.again (header_of p) p.body is.header in rw (head, is.body)
