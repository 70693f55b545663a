-- What a node is told once.
use Rattle.std.specs.Prelude.{ℕ, ◌≤◌, Bool}
use Rattle.ab_num.specs.declared.party.Party.{Party}
use Rattle.ab_msg.specs.Fields.{IsParty}

-- who the party is, where the ports begin, how long a turn waits, and whether each event has a line
pub record NodeSetting : Type 0 where
  pub me : Party
  pub base : ℕ
  pub wait : ℕ
  pub trace : Bool

-- the highest port at which ports may begin
abbrev pub highest_base : ℕ
highest_base = 65000

-- each party has a port, and messages can name the own one
pub record IsNodeSetting (s : NodeSetting) : Type 0 where
  pub base : s.base ≤ highest_base
  pub me : IsParty s.me
