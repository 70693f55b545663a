-- The pieces of a message that come in any order, with other datagrams between them.
use Rattle.std.specs.Prelude.{◌≡◌, ◌≢◌, ℕ, ◌-◌, ◌<◌, List, [], ◌∷◌, ◌++◌, length, replicate, Contains, IsPermutation, Ok, ⊤}
use Rattle.std.specs.List.{count_by}
use Rattle.ab_num.specs.declared.party.Party.{Party}
use Rattle.ab_piece.specs.Pieces.{Piece, IsCut, count_of, each_from, piece_of}
use Rattle.ab_piece.specs.Joining.{Answer, OpenMessage, is_of, more, step_of, whole}

-- what comes: a piece of the message, by its index, or another datagram
pub data Arrival : Type 0 where
  own : ℕ → Arrival
  other : List ℕ → Arrival

-- the indices of the pieces, in the order in which they come
abbrev pub indices : List Arrival → List ℕ
indices [] = []
indices (own i ∷ later) = i ∷ indices later
indices (other bytes ∷ later) = indices later

-- what is answered to the pieces, in the same order
abbrev pub answers : (ℕ → List ℕ) → List OpenMessage → List Arrival → List Answer
answers piece messages [] = []
answers piece messages (own i ∷ later) = (step_of messages (piece i)).answer ∷ answers piece (step_of messages (piece i)).after later
answers piece messages (other bytes ∷ later) = answers piece (step_of messages bytes).after later

-- the indices of a message's pieces, ascending
abbrev pub all_indices : List ℕ → List ℕ
all_indices message = each_from (λ i. i) 0 (count_of (length message))

-- where the datagram is a piece of this sender's, it is of one of these messages, and not of that with this number
abbrev pub IsOfAnother : Party → ℕ → List ℕ → List ℕ → Type 0
IsOfAnother sender number others bytes =
    (p : Piece) → piece_of bytes ≡ Ok p → p.sender ≡ sender → (p.number ≢ number) × Contains others p.number

abbrev pub AllOfOthers : Party → ℕ → List ℕ → List Arrival → Type 0
AllOfOthers sender number others [] = ⊤
AllOfOthers sender number others (own i ∷ later) = AllOfOthers sender number others later
AllOfOthers sender number others (other bytes ∷ later) = IsOfAnother sender number others bytes × AllOfOthers sender number others later

-- each piece of the message comes once, in some order; between them come pieces of fewer than eight other messages of its sender,
-- pieces of other senders, and what is no piece
pub record AreArrivals (sender : Party) (number : ℕ) (message : List ℕ) (arrivals : List Arrival) : Type 0 where
  pub cut : IsCut sender number message
  pub pieces : IsPermutation (all_indices message) (indices arrivals)
  pub others : List ℕ
  pub few : length others < 8
  pub apart : AllOfOthers sender number others arrivals

-- to each piece but the last that others are missing, and to the last the message
abbrev pub expected : List ℕ → List Answer
expected message = replicate (count_of (length message) - 1) more ++ whole message ∷ []

-- none of the open messages is this sender's of this number
abbrev pub IsClosed : Party → ℕ → List OpenMessage → Type 0
IsClosed sender number messages = count_by (is_of sender number) messages ≡ 0
