-- The pieces of a message, and their bytes.
use Rattle.std.specs.Prelude.{ℕ, zero, suc, ◌+◌, ◌*◌, ◌/◌, ◌^◌, ◌<◌, ◌≤◌, List, [], ◌∷◌, ◌++◌, length, take, drop, Result, Ok, Err, Bool, IsTrue, nat_lt, nat_le, ◌==◌, ◌&&◌, if◌then◌else◌}
use Rattle.std.specs.Int.{w16, w64}
use Rattle.ab_num.specs.declared.party.Party.{Party}
use Rattle.ab_num.specs.Limits.{longest_message}
use Rattle.ab_form.specs.declared.bad.Bad.{Bad}
use Rattle.ab_form.specs.declared.bad.Bad.TheVariants.{BadLength, BadField}
use Rattle.ab_form.specs.Readers.{Reader, ◌>>=◌, ranged_at, marked, made, both}
use Rattle.ab_form.specs.Formats.{IsWithin, u8_bytes, u16_bytes, u64_bytes}
use Rattle.ab_msg.specs.Fields.{IsParty, spell_party}
use Rattle.ab_content.specs.Parts.{party_at}

-- ---- headers

-- what stands before a piece's body: who sends the message, the message's number, which piece it is, and of how many
pub record Header : Type 0 where
  pub sender : Party
  pub number : ℕ
  pub index : ℕ
  pub count : ℕ

abbrev pub IsHeader : Header → Type 0
IsHeader h = IsParty h.sender × (IsWithin 0 18446744073709551615 h.number × (IsWithin 0 65535 h.index × IsWithin 1 512 h.count))

abbrev pub spell_header : Header → List ℕ
spell_header h = u8_bytes 1 ++ (spell_party h.sender ++ (u64_bytes h.number ++ (u16_bytes h.index ++ u16_bytes h.count)))

abbrev pub header_from : Party × (ℕ × (ℕ × ℕ)) → Header
header_from t = record { sender = t.0; number = t.1.0; index = t.1.1.0; count = t.1.1.1 }

unfoldable pub header_at : Reader Header
header_at bytes =
    marked 1 BadField (made header_from (both party_at (both (ranged_at w64 0 18446744073709551615 BadField) (both (ranged_at w16 0 65535 BadField) (ranged_at w16 1 512 BadLength))))) bytes

-- ---- pieces

-- how many bytes of its message each piece but the last has
abbrev pub body_size : ℕ
body_size = 8192

-- a piece: its header, and its part of the message
pub record Piece : Type 0 where
  pub sender : Party
  pub number : ℕ
  pub index : ℕ
  pub count : ℕ
  pub body : List ℕ

abbrev pub header_of : Piece → Header
header_of p = record { sender = p.sender; number = p.number; index = p.index; count = p.count }

abbrev pub piece_from : Header → List ℕ → Piece
piece_from h body = record { sender = h.sender; number = h.number; index = h.index; count = h.count; body = body }

-- the index is below the count; all bodies but the last are full, and the last isn't empty
abbrev pub body_fits : ℕ → ℕ → ℕ → Bool
body_fits index count size =
    nat_lt index count && (if index + 1 == count then nat_le 1 size && nat_le size body_size else size == body_size)

-- a piece of the grammar
pub record IsPiece (p : Piece) : Type 0 where
  pub header : IsHeader (header_of p)
  pub body : IsTrue (body_fits p.index p.count (length p.body))

abbrev pub spell_piece : Piece → List ℕ
spell_piece p = spell_header (header_of p) ++ p.body

-- the piece that the bytes are, or what is wrong with them
unfoldable pub piece_of : List ℕ → Result Piece Bad
piece_of bytes = header_at bytes >>= λ h. if body_fits h.0.index h.0.count (length h.1) then Ok (piece_from h.0 h.1) else Err BadLength

-- ---- cutting

-- how many pieces a message of so many bytes has
abbrev pub count_of : ℕ → ℕ
count_of size = (size + 8191) / 8192

-- what the piece of this index has of the message
abbrev pub part_at : List ℕ → ℕ → List ℕ
part_at message index = take body_size (drop (body_size * index) message)

abbrev pub piece_at : Party → ℕ → List ℕ → ℕ → Piece
piece_at sender number message index =
    record { sender = sender; number = number; index = index; count = count_of (length message); body = part_at message index }

-- the bytes of the piece of this index
unfoldable pub cut_at : Party → ℕ → List ℕ → ℕ → List ℕ
cut_at sender number message index = spell_piece (piece_at sender number message index)

-- what f gives of so many numbers, from i on
abbrev pub each_from : {A : Type 0} → (ℕ → A) → ℕ → ℕ → List A
each_from f i zero = []
each_from f i (suc n) = f i ∷ each_from f (suc i) n

-- all pieces of a message, by ascending index
abbrev pub cut_of : Party → ℕ → List ℕ → List (List ℕ)
cut_of sender number message = each_from (cut_at sender number message) 0 (count_of (length message))

-- a message that is cut: of 1 to 4,194,304 bytes, by a party, under a number of eight bytes
pub record IsCut (sender : Party) (number : ℕ) (message : List ℕ) : Type 0 where
  pub party : IsParty sender
  pub eight_bytes : number < 2 ^ 64
  pub some : 1 ≤ length message
  pub few : length message ≤ longest_message
