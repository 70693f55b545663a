-- What a node drives: a party's core, as plain functions.
use Rattle.std.specs.Prelude.{ℕ, List, Option, Bool}
use Rattle.ab_msg.specs.Packets.{Packet}
use Rattle.ab_loop.specs.declared.party_core.Commit.{Commit}
use Rattle.ab_loop.specs.declared.party_core.NodeEventRef.{NodeEventRef}
use Rattle.ab_loop.specs.declared.party_core.NodeEventRef.TheVariants as input

-- what comes to a core: a command, a message's bytes, or the end of its timer
pub data NodeEvent : Type 0 where
  invoke : List ℕ → NodeEvent
  message : List ℕ → NodeEvent
  timeout : NodeEvent

abbrev pub event_of : NodeEventRef → NodeEvent
event_of (input.Invoke command) = invoke command.now
event_of (input.Message bytes) = message bytes.now
event_of input.Timeout = timeout

-- what an event leaves and sends, what was committed in it, whether it was spent, and whether it opened: false exactly for a message that
-- the core couldn't open
pub record Reaction (C : Type 0) : Type 0 where
  pub after : C
  pub sends : List Packet
  pub commit : Option Commit
  pub spent : Bool
  pub opened : Bool

-- the rules of a core with the states C: what each event does, and whether the timer is on, and with which number
pub record Rules (C : Type 0) : Type 0 where
  pub step : C → NodeEvent → Reaction C
  pub timer : C → Option ℕ
