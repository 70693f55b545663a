-- What a party sends, as it leaves.
use Rattle.std.specs.Prelude.{ℕ, ◌≤◌, List, length}
use Rattle.ab_num.specs.declared.party.Party.{Party}
use Rattle.ab_num.specs.Limits.{longest_message}
use Rattle.ab_msg.specs.Fields.{IsParty}

-- to whom, and its bytes
pub record Packet : Type 0 where
  pub to : Party
  pub bytes : List ℕ

-- to a party that has a port, and of a length that is cut
pub record IsSendable (m : Packet) : Type 0 where
  pub to : IsParty m.to
  pub some : 1 ≤ length m.bytes
  pub few : length m.bytes ≤ longest_message
