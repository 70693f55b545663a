-- Whole messages.
use Rattle.std.specs.Prelude.{◌≡◌, ◌⊎◌, ℕ, ◌<◌, List, [], ◌∷◌, length, slice_index_or, Ok}
use Rattle.std.specs.List.{flat_map}
use Rattle.ab_num.specs.declared.party.Party.{Party}
use Rattle.ab_piece.specs.Pieces.{Piece, piece_of}

-- this piece came in one of the datagrams
abbrev pub Came : List (List ℕ) → Piece → Type 0
Came [] p = ⊥
Came (bytes ∷ before) p = (piece_of bytes ≡ Ok p) ⊎ Came before p

-- the message is that of one sender and number: for each index below its count a piece came, and its bytes are their bodies by
-- ascending index
pub record IsWholeOf (datagrams : List (List ℕ)) (message : List ℕ) : Type 0 where
  pub sender : Party
  pub number : ℕ
  pub bodies : List (List ℕ)
  pub each : (i : ℕ) → i < length bodies → Came datagrams (record { sender = sender; number = number; index = i; count = length bodies; body = slice_index_or bodies i [] })
  pub bytes : message ≡ flat_map (λ body. body) bodies
