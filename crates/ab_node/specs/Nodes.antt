-- A node of the program: one party, by the text that sets it up, over a link, a clock and a sink.
use Rattle.std.specs.Prelude.{◌≡◌, ℕ, List, [], map, Option, None, Some, Ok, Err, ⊤}
use Rattle.arrayvec.specs.ArrayVec.{ArrayVec}
use Rattle.ab_num.specs.declared.party.Party.{Party}
use Rattle.ab_num.specs.declared.party.Party.TheVariants.{Replica, Client}
use Rattle.ab_io.specs.Causes.{Rose}
use Rattle.ab_io.specs.States.{Change, ClockState, LinkState, SinkState, SourceState}
use Rattle.ab_text.specs.Lines.{lines_of}
use Rattle.ab_key_text.specs.declared.fault.NodeFault.{NodeFault}
use Rattle.ab_key_text.specs.declared.fault.NodeFault.TheVariants as text_fault
use Rattle.ab_key_text.specs.Keys.{PartyKeys}
use Rattle.ab_key_text.specs.Nodes.{NodeText, node_in}
use Rattle.ab_words.specs.Commands.{NodeCommand}
use Rattle.ab_abs.specs.Ensembles.{Proto}
use Rattle.ab_loop.specs.declared.fault.ServeFault.{ServeFault}
use Rattle.ab_loop.specs.declared.serving.Served.{Served}
use Rattle.ab_loop.specs.Settings.{NodeSetting}
use Rattle.ab_loop.specs.Cores.{NodeEvent, Rules}
use Rattle.ab_loop.specs.Edges.{Crash, Edge, KeepState, edge}
use Rattle.ab_loop.specs.Runs.{HasFaultOf, HasServed, Start, start_of}
use Rattle.ab_node.specs.Replicas.{IsFirstReplica, ReplicaMember, replica_rules}
use Rattle.ab_node.specs.Clients.{ClientMember, IsFirstClient, client_rules}
use Rattle.ab_replay.specs.declared.refusal.RefusalCause.TheVariants.{BadLine, NoEnd}
use Rattle.ab_replay.specs.declared.refusal.Refusal.{Refusal}
use Rattle.ab_replay.specs.Protocols.{Any}
use Rattle.ab_replay.specs.Replays.{proto_of}
use Rattle.ab_replay.specs.Streams.{IsInput, IsTooLong}
use Rattle.ab_node.specs.declared.stop.Stop.{Stop}
use Rattle.ab_node.specs.declared.stop.Stop.TheVariants as stop
use Rattle.ab_node.specs.Timers.{any_counted}

-- what a node is asked for, the events that its party handled before, and what becomes of clock, sink, link and what is kept
pub record NodeCall : Type 0 where
  pub asked : NodeCommand
  pub past : List NodeEvent
  pub clock : Change ClockState
  pub old : Edge
  pub new : Edge

abbrev pub node_call : NodeCommand → List NodeEvent → Change ClockState → Edge → Edge → NodeCall
node_call asked past clock old new = record { asked = asked; past = past; clock = clock; old = old; new = new }

-- nothing is kept
abbrev pub no_keep : KeepState
no_keep = record { kept = None; faults = 0 }

-- and nothing is known of a crash
abbrev pub no_crash : Crash
no_crash more = ⊤

-- a node without a journal
abbrev pub plain_call : NodeCommand → Change ClockState → Change SinkState → Change LinkState → NodeCall
plain_call asked clock out link = node_call asked [] clock (edge out.before link.before no_keep) (edge out.after link.after no_keep)

abbrev pub setting_of : NodeCommand → Party → NodeSetting
setting_of a me = record { me = me; base = a.base; wait = a.wait; trace = a.trace }

abbrev pub as_command : List ℕ → ArrayVec ℕ
as_command bytes = record { items = bytes }

-- ---- one party

abbrev pub start_with : {C : Type 0} → NodeCall → Party → C → List (List ℕ) → Start C
start_with x me core commands = start_of (setting_of x.asked me) x.asked.turns core x.past (map as_command commands) x.clock.before x.old.link

-- a core was served, to the end
abbrev pub CoreServed : {C : Type 0} → Rules C → Party → C → List (List ℕ) → NodeCall → Crash → Served → Type 0
CoreServed rules me core commands x crash served = HasServed rules (start_with x me core commands) x.old x.new crash x.clock.after.readings served

-- it was served, and the node stopped for this
abbrev pub CoreStopped : {C : Type 0} → Rules C → Party → C → List (List ℕ) → NodeCall → Crash → ServeFault → Type 0
CoreStopped rules me core commands x crash why = HasFaultOf rules (start_with x me core commands) x.old x.new crash x.clock.after.readings why

-- the replica of these keys was served, to the end
pub record ReplicaServed (proto : Proto Any) (k : PartyKeys) (r : ℕ) (commands : List (List ℕ)) (x : NodeCall) (crash : Crash) (served : Served) : Type 0 where
  pub core : ReplicaMember Any
  pub first : IsFirstReplica proto k r core
  pub run : CoreServed (replica_rules proto any_counted) (Replica r) core commands x crash served

-- it was served, and the node stopped for this
pub record ReplicaStopped (proto : Proto Any) (k : PartyKeys) (r : ℕ) (commands : List (List ℕ)) (x : NodeCall) (crash : Crash) (why : ServeFault) : Type 0 where
  pub core : ReplicaMember Any
  pub first : IsFirstReplica proto k r core
  pub fault : CoreStopped (replica_rules proto any_counted) (Replica r) core commands x crash why

-- the same of the client of these keys
pub record ClientServed (k : PartyKeys) (c : ℕ) (commands : List (List ℕ)) (x : NodeCall) (crash : Crash) (served : Served) : Type 0 where
  pub core : ClientMember
  pub first : IsFirstClient k c core
  pub run : CoreServed client_rules (Client c) core commands x crash served

pub record ClientStopped (k : PartyKeys) (c : ℕ) (commands : List (List ℕ)) (x : NodeCall) (crash : Crash) (why : ServeFault) : Type 0 where
  pub core : ClientMember
  pub first : IsFirstClient k c core
  pub fault : CoreStopped client_rules (Client c) core commands x crash why

-- the party of these keys, a replica with the service that they name. What a client does depends on no service
abbrev pub PartyServed : Party → PartyKeys → List (List ℕ) → NodeCall → Crash → Served → Type 0
PartyServed (Replica r) k commands x crash served = ReplicaServed (proto_of k.service) k r commands x crash served
PartyServed (Client c) k commands x crash served = ClientServed k c commands x crash served

abbrev pub PartyStopped : Party → PartyKeys → List (List ℕ) → NodeCall → Crash → ServeFault → Type 0
PartyStopped (Replica r) k commands x crash why = ReplicaStopped (proto_of k.service) k r commands x crash why
PartyStopped (Client c) k commands x crash why = ClientStopped k c commands x crash why

-- ---- by a text

-- the party that the text sets up was served to the end: a client's commands are answered, or a replica's turns are used
pub record IsServed (text : List ℕ) (x : NodeCall) (crash : Crash) (served : Served) : Type 0 where
  pub node : NodeText
  pub reads : node_in (lines_of text) ≡ Ok node
  pub run : PartyServed node.keys.me node.keys node.commands x crash served

-- it was served, and the node stopped for this
pub record IsStopped (text : List ℕ) (x : NodeCall) (crash : Crash) (why : ServeFault) : Type 0 where
  pub node : NodeText
  pub reads : node_in (lines_of text) ≡ Ok node
  pub fault : PartyStopped node.keys.me node.keys node.commands x crash why

-- a line is out of form or missing
abbrev pub text_refusal : NodeFault → Option Refusal
text_refusal (text_fault.BadLine n) = Some (record { line = n; cause = BadLine })
text_refusal (text_fault.NoEnd n) = Some (record { line = n; cause = NoEnd })
text_refusal text_fault.OutOfMemory = None

-- where nothing is refused, memory was
abbrev pub stop_from : Option Refusal → Stop
stop_from None = stop.OutOfMemory
stop_from (Some r) = stop.Refused r

pub record IsRefused (text : List ℕ) (r : Refusal) : Type 0 where
  pub fault : NodeFault
  pub reads : node_in (lines_of text) ≡ Err fault
  pub refuses : text_refusal fault ≡ Some r

-- sink, link and clock are as before
abbrev pub IsUntouched : NodeCall → Type 0
IsUntouched x = (x.new ≡ x.old) × (x.clock.after ≡ x.clock.before)

-- when a node stops for each reason: by what becomes of the input
abbrev pub StopCause : Stop → Change SourceState → NodeCall → Type 0
StopCause stop.Read input x = Rose input.before.faults input.after.faults × IsUntouched x
StopCause stop.TooLong input x = IsTooLong input.before.left × IsUntouched x
StopCause (stop.Refused r) input x = ((text : List ℕ) × IsInput input.before.left text × IsRefused text r) × IsUntouched x
StopCause (stop.Serving why) input x = (text : List ℕ) × IsInput input.before.left text × IsStopped text x no_crash why
StopCause stop.Disk input x = ⊥
StopCause (stop.Journal n) input x = ⊥
StopCause stop.OutOfMemory input x = IsUntouched x

-- a text that sets up no party, or of which memory was wanting
abbrev pub TextCause : Stop → List ℕ → Type 0
TextCause stop.Read text = ⊥
TextCause stop.TooLong text = ⊥
TextCause (stop.Refused r) text = IsRefused text r
TextCause (stop.Serving why) text = ⊥
TextCause stop.Disk text = ⊥
TextCause (stop.Journal n) text = ⊥
TextCause stop.OutOfMemory text = ⊤

-- a party of which this is said once it is served
abbrev pub PartyCause : (ServeFault → Type 0) → NodeCall → Stop → Type 0
PartyCause HasFault x stop.Read = ⊥
PartyCause HasFault x stop.TooLong = ⊥
PartyCause HasFault x (stop.Refused r) = ⊥
PartyCause HasFault x (stop.Serving why) = HasFault why
PartyCause HasFault x stop.Disk = ⊥
PartyCause HasFault x (stop.Journal n) = ⊥
PartyCause HasFault x stop.OutOfMemory = IsUntouched x

abbrev pub ReplicaCause : Proto Any → PartyKeys → ℕ → List (List ℕ) → NodeCall → Crash → Stop → Type 0
ReplicaCause proto k r commands x crash = PartyCause (ReplicaStopped proto k r commands x crash) x

abbrev pub ClientCause : PartyKeys → ℕ → List (List ℕ) → NodeCall → Crash → Stop → Type 0
ClientCause k c commands x crash = PartyCause (ClientStopped k c commands x crash) x

-- and of the party of these keys
abbrev pub PartyEnds : Party → PartyKeys → List (List ℕ) → NodeCall → Crash → Stop → Type 0
PartyEnds me k commands x crash = PartyCause (PartyStopped me k commands x crash) x

-- when a node stops for each reason whose text is there
abbrev pub TextStopped : Stop → List ℕ → NodeCall → Type 0
TextStopped stop.Read text x = ⊥
TextStopped stop.TooLong text x = ⊥
TextStopped (stop.Refused r) text x = IsRefused text r × IsUntouched x
TextStopped (stop.Serving why) text x = IsStopped text x no_crash why
TextStopped stop.Disk text x = ⊥
TextStopped (stop.Journal n) text x = ⊥
TextStopped stop.OutOfMemory text x = IsUntouched x
