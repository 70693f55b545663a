-- Messages that are open: some of their pieces came, and some are missing.
use Rattle.std.specs.Prelude.{ℕ, List, [], ◌∷◌, ◌++◌, length, set, replicate, Option, None, Some, Ok, Err, Bool, is_none, is_some, unwrap_or, slice_index_or, nat_lt, ◌==◌, ◌&&◌, if◌then◌else◌}
use Rattle.std.specs.List.{count_by, position, remove, flat_map}
use Rattle.ab_num.specs.declared.party.Party.{Party}
use Rattle.ab_num.specs.Parties.{party_eq}
use Rattle.ab_piece.specs.declared.taken.DropCause.{DropCause}
use Rattle.ab_piece.specs.declared.taken.DropCause.TheVariants as cause
use Rattle.ab_piece.specs.declared.taken.Taken.{Taken}
use Rattle.ab_piece.specs.declared.taken.Taken.TheVariants as taken
use Rattle.ab_piece.specs.Pieces.{Piece, piece_of}

-- a message of which pieces were kept: for each index the body that came
pub record OpenMessage : Type 0 where
  pub sender : Party
  pub number : ℕ
  pub bodies : List (Option (List ℕ))

-- how many open messages of one sender are kept
abbrev pub most_open : ℕ
most_open = 8

abbrev pub is_from : Party → OpenMessage → Bool
is_from sender o = party_eq o.sender sender

abbrev pub is_of : Party → ℕ → OpenMessage → Bool
is_of sender number o = party_eq o.sender sender && (o.number == number)

-- how many pieces are missing
abbrev pub missing : List (Option (List ℕ)) → ℕ
missing bodies = count_by is_none bodies

-- the body at this index, and nothing where it is missing
abbrev pub body_in : List (Option (List ℕ)) → ℕ → List ℕ
body_in bodies i = unwrap_or (slice_index_or bodies i None) []

-- the bodies that are there, by ascending index, one behind the other
abbrev pub message_of : List (Option (List ℕ)) → List ℕ
message_of bodies = flat_map (λ body. unwrap_or body []) bodies

-- the message with this body at its index
abbrev pub with_body : OpenMessage → ℕ → List ℕ → OpenMessage
with_body o index body = record { sender = o.sender; number = o.number; bodies = set o.bodies index (Some body) }

-- the message that a first piece opens
abbrev pub opened : Piece → OpenMessage
opened p = with_body (record { sender = p.sender; number = p.number; bodies = replicate p.count None }) p.index p.body

-- where the sender's message stands whose first piece came first, if a further one would be too many
abbrev pub crowded_out : Party → List OpenMessage → Option ℕ
crowded_out sender messages =
    if nat_lt (count_by (is_from sender) messages) most_open then None else position (is_from sender) messages

-- without the one at this place
abbrev pub without : {X : Type 0} → Option ℕ → List X → List X
without None xs = xs
without (Some at) xs = remove xs at

-- the open messages with room for a further one of this sender
abbrev pub with_room : Party → List OpenMessage → List OpenMessage
with_room sender messages = without (crowded_out sender messages) messages

-- what is answered to a datagram
pub data Answer : Type 0 where
  whole : List ℕ → Answer
  more : Answer
  dropped : DropCause → Answer

-- the answer, and the open messages after it
pub record Joined : Type 0 where
  pub answer : Answer
  pub after : List OpenMessage

abbrev pub step : Answer → List OpenMessage → Joined
step answer messages = record { answer = answer; after = messages }

-- a piece of a message that isn't open
abbrev pub opening_step : List OpenMessage → Piece → Joined
opening_step messages p =
    if p.count == 1 then step (whole p.body) messages
    else step more (with_room p.sender messages ++ opened p ∷ [])

-- a piece of the open message o, which stands at this place
abbrev pub further_step : List OpenMessage → ℕ → OpenMessage → Piece → Joined
further_step messages at o p =
    if length o.bodies == p.count
    then (if is_some (slice_index_or o.bodies p.index None) then step (dropped cause.Again) messages
    else if missing o.bodies == 1 then step (whole (message_of (set o.bodies p.index (Some p.body)))) (remove messages at)
    else step more (set messages at (with_body o p.index p.body)))
    else step (dropped cause.Differs) messages

abbrev pub piece_step : List OpenMessage → Piece → Joined
piece_step messages p =
    elim (position (is_of p.sender p.number) messages) [ None ↦ opening_step messages p | Some at ↦ further_step messages at (slice_index_or messages at (opened p)) p ]

-- what a datagram does
unfoldable pub step_of : List OpenMessage → List ℕ → Joined
step_of messages bytes = elim (piece_of bytes) [ Ok p ↦ piece_step messages p | Err bad ↦ step (dropped cause.Header) messages ]

-- what a call answered
abbrev pub answer_of : Taken → Answer
answer_of (taken.Whole v) = whole v.items
answer_of taken.More = more
answer_of (taken.Dropped c) = dropped c

-- the open messages after these datagrams, of which the newest stands first
abbrev pub open_after : List (List ℕ) → List OpenMessage
open_after [] = []
open_after (bytes ∷ before) = (step_of (open_after before) bytes).after
