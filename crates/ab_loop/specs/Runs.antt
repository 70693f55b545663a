-- A node's run: its turns are what clock and link tell, and it ends where its commands are answered or its turns are used.
use Rattle.std.specs.Prelude.{◌≡◌, ◌⊎◌, ℕ, ◌<◌, ◌≤◌, List, [], ◌∷◌, ◌++◌, drop, length, Option, Ok, Err, true, false, IfSome, ⊤}
use Rattle.std.specs.Option.{option_map}
use Rattle.arrayvec.specs.ArrayVec.{ArrayVec}
use Rattle.ab_io.specs.Readings.{Readings, next_reading, later_readings}
use Rattle.ab_io.specs.States.{ClockState, LinkState}
use Rattle.ab_loop.specs.Settings.{NodeSetting}
use Rattle.ab_loop.specs.declared.fault.ServeFault.{ServeFault}
use Rattle.ab_loop.specs.declared.fault.ServeFault.TheVariants as fault
use Rattle.ab_loop.specs.declared.serving.Served.{Served}
use Rattle.ab_loop.specs.Cores.{NodeEvent, Rules}
use Rattle.ab_loop.specs.Edges.{Effect, Edge, Crash, DidAll, DidUntil, writing, bodies_in, Rises, Counted}
use Rattle.ab_loop.specs.Texts.{end_text}
use Rattle.ab_loop.specs.Nodes.{Node, Out, Turn, Follows, IsNext, left_by, is_client, is_done, first_step, run_after, turn_step}

-- ---- what clock and link tell

-- the readings that are left after these turns
abbrev pub readings_after : Option Readings → List Turn → Option Readings
readings_after known [] = known
readings_after known (turn ∷ before) = option_map later_readings (readings_after known before)

-- the datagrams that are to come after these turns
abbrev pub to_come_after : Option (List (List ℕ)) → List Turn → Option (List (List ℕ))
to_come_after known [] = known
to_come_after known (turn ∷ before) = left_by turn.got (to_come_after known before)

-- each turn, the newest first, has the clock's next reading and the link's next datagram, where these are told
abbrev pub AreTold : Option Readings → Option (List (List ℕ)) → List Turn → Type 0
AreTold clock link [] = ⊤
AreTold clock link (turn ∷ before) =
    AreTold clock link before
    × IfSome (readings_after clock before) (λ r. turn.reading ≡ next_reading r)
    × IfSome (to_come_after link before) (λ datagrams. IsNext datagrams turn.got)

-- ---- the end

-- no turn began where the commands were answered
abbrev pub AreWanted : {C : Type 0} → Rules C → NodeSetting → Out C → List Turn → Type 0
AreWanted rules s start [] = ⊤
AreWanted rules s start (turn ∷ before) = AreWanted rules s start before × (is_done s (run_after rules s start before).node ≡ false)

-- the line of the end
abbrev pub end_line : {C : Type 0} → Node C → ℕ → List Effect
end_line node lost = writing (end_text node.events node.sent lost node.spent)

-- what a node is started with, and what the outside tells before
pub record Start (C : Type 0) : Type 0 where
  pub setting : NodeSetting
  pub turns : ℕ
  pub core : C
  pub past : List NodeEvent
  pub commands : List (ArrayVec ℕ)
  pub clock : Option Readings
  pub link : Option (List (List ℕ))

-- the turns of a run, the newest first: the reading before them is the clock's next one, and they are no more than the node has
pub record Turns {C : Type 0} (rules : Rules C) (x : Start C) : Type 0 where
  pub first : ℕ
  pub turns : List Turn
  pub first_is : IfSome x.clock (λ r. first ≡ next_reading r)
  pub told : AreTold (option_map later_readings x.clock) x.link turns
  pub wanted : AreWanted rules x.setting (first_step rules x.setting first x.core x.past x.commands) turns
  pub within : length turns ≤ x.turns

abbrev pub end_of : {C : Type 0} (rules : Rules C) (x : Start C) → Turns rules x → Out C
end_of rules x ts = run_after rules x.setting (first_step rules x.setting ts.first x.core x.past x.commands) ts.turns

-- the commands are answered, or the turns are used
abbrev pub HasEnded : {C : Type 0} (rules : Rules C) (x : Start C) → Turns rules x → Type 0
HasEnded rules x ts = (is_done x.setting (end_of rules x ts).node ≡ true) ⊎ (length ts.turns ≡ x.turns)

-- clock and link have what these turns leave: the clock was read once before them and once in each, the link asked once in each
pub record AreLeft {C : Type 0} (x : Start C) (turns : List Turn) (clock : Option Readings) (link : Option (List (List ℕ))) : Type 0 where
  pub clock_is : clock ≡ readings_after (option_map later_readings x.clock) turns
  pub link_is : link ≡ to_come_after x.link turns

-- A node's whole run: by the turn rule, until the commands are answered or the turns are used. Its text was written and its
-- datagrams were handed over, each once, and `lost` of them were lost, each of which the link has counted.
pub record NodeRun {C : Type 0} (rules : Rules C) (x : Start C) (old new : Edge) (crash : Crash) (clock : Option Readings) (lost : ℕ) : Type 0 where
  pub turns : Turns rules x
  pub ends : HasEnded rules x turns
  pub did : DidAll old new ((end_of rules x turns).effects ++ end_line (end_of rules x turns).node lost) lost
  pub left : AreLeft x turns.turns clock new.link.to_come
  pub counted : Rises old new lost
  pub any_moment : crash (bodies_in (end_of rules x turns).effects)

-- ---- after a fault: a front of what is done by the turn rule, and why

-- what is done before the last of these turns, and in it. The step before the first turn is the last if there is no turn
abbrev pub before_last : {C : Type 0} → Rules C → NodeSetting → Out C → List Turn → List Effect
before_last rules s start [] = []
before_last rules s start (turn ∷ before) = (run_after rules s start before).effects

abbrev pub in_last : {C : Type 0} → Rules C → NodeSetting → Out C → List Turn → List Effect
in_last rules s start [] = start.effects
in_last rules s start (turn ∷ before) = (turn_step rules s turn (run_after rules s start before).node).effects

-- nothing was begun: nothing is written, kept or sent, and clock and link have what they had
pub record NeverBegan {C : Type 0} (x : Start C) (old new : Edge) (crash : Crash) (clock : Option Readings) : Type 0 where
  pub held : new.out.held ≡ old.out.held
  pub sent : new.link.sent ≡ old.link.sent
  pub kept : new.keep.kept ≡ old.keep.kept
  pub clock_is : clock ≡ x.clock
  pub link_is : new.link.to_come ≡ x.link
  pub any_moment : crash []

-- In the last of these turns, or before the first: all that is done before it was done, and a front of what is done in it. The link
-- may not have been asked in it.
pub record BreaksOff {C : Type 0} (rules : Rules C) (x : Start C) (old new : Edge) (crash : Crash) (clock : Option Readings) : Type 0 where
  pub turns : Turns rules x
  pub lost : ℕ
  pub did : DidUntil old new
      (before_last rules x.setting (first_step rules x.setting turns.first x.core x.past x.commands) turns.turns) lost
      (in_last rules x.setting (first_step rules x.setting turns.first x.core x.past x.commands) turns.turns)
  pub clock_is : clock ≡ readings_after (option_map later_readings x.clock) turns.turns
  pub link_is : (new.link.to_come ≡ to_come_after x.link turns.turns) ⊎ (new.link.to_come ≡ to_come_after x.link (drop 1 turns.turns))
  pub any_moment : crash (bodies_in
      (before_last rules x.setting (first_step rules x.setting turns.first x.core x.past x.commands) turns.turns
      ++ in_last rules x.setting (first_step rules x.setting turns.first x.core x.past x.commands) turns.turns))

-- in the line of the end: all turns were done, and a front of the line was written
pub record EndsUnsaid {C : Type 0} (rules : Rules C) (x : Start C) (old new : Edge) (crash : Crash) (clock : Option Readings) : Type 0 where
  pub turns : Turns rules x
  pub ends : HasEnded rules x turns
  pub lost : ℕ
  pub did : DidUntil old new (end_of rules x turns).effects lost (end_line (end_of rules x turns).node lost)
  pub left : AreLeft x turns.turns clock new.link.to_come
  pub any_moment : crash (bodies_in (end_of rules x turns).effects)

pub record NodeFront {C : Type 0} (rules : Rules C) (x : Start C) (old new : Edge) (crash : Crash) (clock : Option Readings) (why : ServeFault) : Type 0 where
  pub front : NeverBegan x old new crash clock ⊎ (BreaksOff rules x old new crash clock ⊎ EndsUnsaid rules x old new crash clock)
  pub counted : Counted old new (Err why)

-- ---- what each answer says

-- the numbers that are answered are those of the end, and a client's commands are answered
pub record HasServed {C : Type 0} (rules : Rules C) (x : Start C) (old new : Edge) (crash : Crash) (clock : Option Readings) (served : Served) : Type 0 where
  pub run : NodeRun rules x old new crash clock served.lost
  pub events : served.events ≡ (end_of rules x run.turns).node.events
  pub sent : served.sent ≡ (end_of rules x run.turns).node.sent
  pub spent : served.spent ≡ (end_of rules x run.turns).node.spent
  pub answered : is_client x.setting.me ≡ true → (end_of rules x run.turns).node.commands ≡ []

-- the turns were used, and so many commands are unanswered
pub record LeavesCommands {C : Type 0} (rules : Rules C) (x : Start C) (old new : Edge) (crash : Crash) (clock : Option Readings) (n : ℕ) : Type 0 where
  pub lost : ℕ
  pub run : NodeRun rules x old new crash clock lost
  pub used : length run.turns.turns ≡ x.turns
  pub client : is_client x.setting.me ≡ true
  pub some : 0 < n
  pub unanswered : n ≡ length (end_of rules x run.turns).node.commands

-- what each fault says
abbrev pub HasFaultOf : {C : Type 0} → Rules C → Start C → Edge → Edge → Crash → Option Readings → ServeFault → Type 0
HasFaultOf rules x old new crash clock (fault.TurnsSpent n) = LeavesCommands rules x old new crash clock n
HasFaultOf rules x old new crash clock fault.LinkFailed = NodeFront rules x old new crash clock fault.LinkFailed
HasFaultOf rules x old new crash clock fault.WriteFailed = NodeFront rules x old new crash clock fault.WriteFailed
HasFaultOf rules x old new crash clock fault.KeepFailed = NodeFront rules x old new crash clock fault.KeepFailed
HasFaultOf rules x old new crash clock fault.OutOfMemory = NodeFront rules x old new crash clock fault.OutOfMemory

-- ---- a part of the code: the turns without the line of the end

abbrev pub start_of : {C : Type 0} → NodeSetting → ℕ → C → List NodeEvent → List (ArrayVec ℕ) → ClockState → LinkState → Start C
start_of setting turns core past commands clock link =
    record { setting = setting; turns = turns; core = core; past = past; commands = commands; clock = clock.readings; link = link.to_come }

pub record HasRun {C : Type 0} (rules : Rules C) (x : Start C) (old new : Edge) (crash : Crash) (clock : Option Readings) (node : Node C) (lost : ℕ) : Type 0 where
  pub turns : Turns rules x
  pub ends : HasEnded rules x turns
  pub follows : Follows node old new crash (end_of rules x turns) (Ok lost)
  pub left : AreLeft x turns.turns clock new.link.to_come

pub record HasBroken {C : Type 0} (rules : Rules C) (x : Start C) (old new : Edge) (crash : Crash) (clock : Option Readings) (why : ServeFault) : Type 0 where
  pub front : BreaksOff rules x old new crash clock
  pub counted : Counted old new (Err why)

pub record ShowsNumbers {C : Type 0} (s : NodeSetting) (node : Node C) (lost : ℕ) (served : Served) : Type 0 where
  pub events : served.events ≡ node.events
  pub sent : served.sent ≡ node.sent
  pub lost_is : served.lost ≡ lost
  pub spent : served.spent ≡ node.spent
  pub answered : is_client s.me ≡ true → node.commands ≡ []

abbrev pub ShowsOpen : {C : Type 0} → NodeSetting → Node C → ServeFault → Type 0
ShowsOpen s node (fault.TurnsSpent n) = (is_client s.me ≡ true) × (0 < n) × (n ≡ length node.commands)
ShowsOpen s node fault.LinkFailed = ⊥
ShowsOpen s node fault.WriteFailed = ⊥
ShowsOpen s node fault.KeepFailed = ⊥
ShowsOpen s node fault.OutOfMemory = ⊥
