-- How much is open.
use Rattle.std.specs.Prelude.{ℕ, List, [], length, unwrap_or, All, ◌≤◌, if◌then◌else◌}
use Rattle.std.specs.List.{sum_by}
use Rattle.ab_num.specs.declared.party.Party.{Party}
use Rattle.ab_msg.specs.Fields.{IsParty}
use Rattle.ab_piece.specs.Joining.{OpenMessage, is_from}
use Rattle.ab_piece.specs.Pieces.{body_size}

-- of a party, with at most 512 places, and at each at most 8,192 bytes
pub record IsShort (o : OpenMessage) : Type 0 where
  pub sender : IsParty o.sender
  pub places : length o.bodies ≤ 512
  pub bodies : All (λ body. length (unwrap_or body []) ≤ body_size) o.bodies

-- how many bytes of a message are kept
abbrev pub kept_of : OpenMessage → ℕ
kept_of o = sum_by (λ body. length (unwrap_or body [])) o.bodies

-- how many bytes of a sender's messages are kept
abbrev pub kept_from : Party → List OpenMessage → ℕ
kept_from sender messages = sum_by (λ o. if is_from sender o then kept_of o else 0) messages
