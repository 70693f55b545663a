-- The statuses of the top call, each with its cause.
use Rattle.std.specs.Prelude.{◌≡◌, ◌≤◌, ℕ, Bool, true, false, not, List, ◌⊎◌, Some, Ok, Err, length}
use Rattle.ab_num.specs.Limits.{most_events}
use Rattle.ab_io.specs.Causes.{Rose}
use Rattle.ab_command.specs.declared.status.Bound.TheVariants.{Bytes, Events, Packets}
use Rattle.ab_command.specs.declared.status.Status.{Status}
use Rattle.ab_command.specs.declared.status.Status.TheVariants.{Done, Broken, Usage, Refused, ReadFault, WriteFault, LinkFault, Limit, TurnsSpent, OutOfMemory, DiskFault, JournalRefused, ChildFault}
use Rattle.ab_command.specs.Texts.{code_of}
use Rattle.ab_loop.specs.declared.fault.ServeFault.TheVariants as serving
use Rattle.ab_loop.specs.declared.serving.Served.{Served}
use Rattle.ab_loop.specs.Nodes.{is_client}
use Rattle.ab_node.specs.declared.stop.Stop.{Stop}
use Rattle.ab_node.specs.declared.stop.Stop.TheVariants as stop
use Rattle.ab_node.specs.Nodes.{IsServed, StopCause, no_crash}
use Rattle.ab_replay.specs.declared.refusal.Refusal.{Refusal}
use Rattle.ab_replay.specs.Streams.{IsTooLong, most_bytes}
use Rattle.ab_text.specs.Heads.{Script}
use Rattle.ab_text.specs.Lines.{lines_of}
use Rattle.ab_text.specs.Schedules.{ReadsText}
use Rattle.ab_text.specs.declared.line.Premise.{Premise}
use Rattle.ab_text.specs.declared.line.Premise.TheVariants as premise
use Rattle.ab_world.specs.declared.fault.WorldFault.TheVariants.{PacketLimit}
use Rattle.ab_world.specs.Worlds.{World, premise_of}
use Rattle.ab_key_text.specs.Nodes.{NodeText, node_in}
use Rattle.ab_words.specs.Commands.{KeysCommand, NodeCommand, StormCommand}
use Rattle.ab_abs.specs.Ensembles.{Proto}
use Rattle.ab_kv.specs.KvMachines.{kv_machine}
use Rattle.ab_replay.specs.Protocols.{Any, any}
use Rattle.ab_command.specs.Calls.{Call, call_of}
use Rattle.ab_audit_text.specs.Texts.{AuditText, audit_in}
use Rattle.ab_audit.specs.Tellings.{Accuses, Audits}
use Rattle.ab_command.specs.Audits.{IsNoAudit}
use Rattle.ab_command.specs.Commands.{AsksAudit, AsksKeys, AsksNode, AsksStorm, IsAudit, IsNoCommand, IsReplay, key_text}
use Rattle.ab_command.specs.Endings.{HasInput, FailsToWrite, Says, SaysNoMemory}
use Rattle.ab_command.specs.Outputs.{Gets, GetsFront, HasFailed, IsKept}
use Rattle.ab_replay.specs.Replays.{Replays, IsRefused, HasTooManyEvents, HasTooManyBytes, Runs}
use Rattle.ab_storm.specs.Runs.{Storms, StormsTo}
use Rattle.ab_storm.specs.Summaries.{summary_of}

-- out got the report of the run that the input spells, and nothing else. Its premise line says `held` or `broken`
abbrev pub HasReport : Bool → Call → Type 0
HasReport held c = (report : List ℕ) × HasInput (λ text. Replays text report held) c.met.input.before.left × Gets c.met.out report

-- the words ask for an audit, and out got the report of the one that the input spells, and nothing else. It says whether someone is accused
abbrev pub HasAudit : Bool → Call → Type 0
HasAudit accuses c =
    (why : Bool) × (report : List ℕ) × AsksAudit c.words why × HasInput (λ text. Audits why text report accuses) c.met.input.before.left × Gets c.met.out report

-- what the words ask to be told of the input was told: a run whose premises held or not, or an audit that accuses no one or someone
abbrev pub TellsInput : Bool → Call → Type 0
TellsInput well c = (IsReplay c.words × HasReport well c) ⊎ HasAudit (not well) c

-- out got a front of it
abbrev pub TellsInputFront : Call → Type 0
TellsInputFront c =
    ((report : List ℕ) × (held : Bool) × IsReplay c.words × HasInput (λ text. Replays text report held) c.met.input.before.left × GetsFront c.met.out report)
    ⊎ ((why : Bool) × (report : List ℕ) × (accuses : Bool) × AsksAudit c.words why × HasInput (λ text. Audits why text report accuses) c.met.input.before.left × GetsFront c.met.out report)

-- the words ask to be told of the input
abbrev pub AsksInput : List (List ℕ) → Type 0
AsksInput words = IsReplay words ⊎ IsAudit words

-- a line of the input is refused
abbrev pub IsBadInput : Refusal → Call → Type 0
IsBadInput r c =
    (IsReplay c.words × HasInput (λ text. IsRefused text r) c.met.input.before.left) ⊎ (IsAudit c.words × HasInput (λ text. IsNoAudit text r) c.met.input.before.left)

-- out got the key text that the words ask for, and nothing else
abbrev pub HasKeys : Call → Type 0
HasKeys c = (k : KeysCommand) × AsksKeys c.words k × Gets c.met.out (key_text k)

-- out got a front of it
abbrev pub HasKeysFront : Call → Type 0
HasKeysFront c = (k : KeysCommand) × AsksKeys c.words k × GetsFront c.met.out (key_text k)

-- the protocol of a storm's replicas, over the store of keys and values
abbrev pub kv : Proto Any
kv = any kv_machine

-- out got the summary of the storm that the words ask for, and nothing else. Its premise line says `held` or `broken`
abbrev pub HasSummary : Bool → Call → Type 0
HasSummary held c = (k : StormCommand) × (summary : List ℕ) × AsksStorm c.words k × Storms kv_machine kv k summary held × Gets c.met.out summary

-- out got a front of it
abbrev pub HasSummaryFront : Call → Type 0
HasSummaryFront c =
    (k : StormCommand) × (summary : List ℕ) × (held : Bool) × AsksStorm c.words k × Storms kv_machine kv k summary held × GetsFront c.met.out summary

-- the packets of an event of this storm would have more bytes than a world keeps
abbrev pub Passes : StormCommand → Type 0
Passes k = (e : ℕ) × StormsTo kv k (Err (e, PacketLimit))

-- and the words ask for it
abbrev pub StormPasses : Call → Type 0
StormPasses c = (k : StormCommand) × AsksStorm c.words k × Passes k

-- the words ask for a node, the input sets up a party, and it was served to the end: its turns, its text and its datagrams are
-- those of its core
abbrev pub ServesNode : Call → Type 0
ServesNode c = (k : NodeCommand) × AsksNode c.words k × HasInput (λ text. (served : Served) × IsServed text (call_of k c) no_crash served) c.met.input.before.left

-- the words ask for a node, and it stopped for this: what was written and sent until then is a front of what its core says
abbrev pub StopsNode : Stop → Call → Type 0
StopsNode why c = (k : NodeCommand) × AsksNode c.words k × StopCause why c.met.input (call_of k c)

-- out got nothing, or a front of what the words ask for: of a report, the key text, a summary or a node's lines
abbrev pub HasFront : Call → Type 0
HasFront c =
    IsKept c.met.out
    ⊎ (TellsInputFront c
    ⊎ (HasKeysFront c ⊎ (HasSummaryFront c ⊎ ((why : Stop) × StopsNode why c))))

-- when each status comes, and what it leaves on out and err
abbrev pub StatusCause : Status → Call → Type 0
StatusCause Done c = (TellsInput true c ⊎ (HasKeys c ⊎ (HasSummary true c ⊎ ServesNode c))) × IsKept c.met.err
StatusCause Broken c = (TellsInput false c ⊎ HasSummary false c) × IsKept c.met.err
StatusCause Usage c = IsNoCommand c.words × IsKept c.met.out × Says Usage c.met.err
StatusCause (Refused r) c =
    ((IsBadInput r c × IsKept c.met.out) ⊎ StopsNode (stop.Refused r) c)
    × Says (Refused r) c.met.err
StatusCause ReadFault c =
    ((AsksInput c.words × Rose c.met.input.before.faults c.met.input.after.faults × IsKept c.met.out) ⊎ StopsNode stop.Read c) × Says ReadFault c.met.err
StatusCause WriteFault c = FailsToWrite c.met.out c.met.err × HasFront c
StatusCause LinkFault c = StopsNode (stop.Serving serving.LinkFailed) c × Says LinkFault c.met.err
StatusCause (Limit Bytes) c =
    ((AsksInput c.words × IsTooLong c.met.input.before.left × IsKept c.met.out) ⊎ StopsNode stop.TooLong c) × Says (Limit Bytes) c.met.err
StatusCause (Limit Packets) c =
    ((IsReplay c.words × HasInput HasTooManyBytes c.met.input.before.left) ⊎ StormPasses c) × IsKept c.met.out × Says (Limit Packets) c.met.err
StatusCause (Limit Events) c = IsReplay c.words × HasInput HasTooManyEvents c.met.input.before.left × IsKept c.met.out × Says (Limit Events) c.met.err
StatusCause (TurnsSpent n) c = StopsNode (stop.Serving (serving.TurnsSpent n)) c × Says (TurnsSpent n) c.met.err
StatusCause OutOfMemory c = HasFront c × SaysNoMemory c.met.err
StatusCause DiskFault c = ⊥
StatusCause (JournalRefused n) c = ⊥
StatusCause ChildFault c = ⊥

-- nothing stands in the way of a call: the input tells that it is a schedule within the limits, of which no event is refused,
-- and no object has counted a fault
pub record IsClear (c : Call) : Type 0 where
  pub words : IsReplay c.words
  pub text : List ℕ
  pub schedule : Script
  pub end : World Any
  pub input : c.met.input.before.left ≡ Some text
  pub short : length text ≤ most_bytes
  pub reads : ReadsText text (Ok schedule)
  pub few : length schedule.events ≤ most_events
  pub runs : Runs schedule (Ok end)
  pub read : Rose c.met.input.before.faults c.met.input.after.faults → ⊥
  pub out : HasFailed c.met.out → ⊥
  pub err : HasFailed c.met.err → ⊥

-- 0 where the premise line says `held`, 1 where it says `broken`
abbrev pub premise_code : Premise → ℕ
premise_code premise.Held = 0
premise_code (premise.Broken e breach p) = 1

-- the words ask for keys, and neither out nor err has counted a fault
pub record IsClearForKeys (c : Call) (k : KeysCommand) : Type 0 where
  pub words : AsksKeys c.words k
  pub out : HasFailed c.met.out → ⊥
  pub err : HasFailed c.met.err → ⊥

-- the words ask for an audit, the input tells that it is the text of one within the limits, and no object has counted a fault
pub record IsClearForAudit (c : Call) : Type 0 where
  pub words : IsAudit c.words
  pub text : List ℕ
  pub audit : AuditText
  pub input : c.met.input.before.left ≡ Some text
  pub short : length text ≤ most_bytes
  pub reads : audit_in (lines_of text) ≡ Ok audit
  pub read : Rose c.met.input.before.faults c.met.input.after.faults → ⊥
  pub out : HasFailed c.met.out → ⊥
  pub err : HasFailed c.met.err → ⊥

-- 0 where nobody is accused, 1 where someone is, or 9 where an allocation failed
abbrev pub IsVerdict : ℕ → AuditText → Type 0
IsVerdict n t = ((n ≡ 0) × (Accuses t → ⊥)) ⊎ (((n ≡ 1) × Accuses t) ⊎ (n ≡ 9))

-- the words ask for a storm, and neither out nor err has counted a fault
pub record IsClearForStorm (c : Call) (k : StormCommand) : Type 0 where
  pub words : AsksStorm c.words k
  pub out : HasFailed c.met.out → ⊥
  pub err : HasFailed c.met.err → ⊥

-- out got the summary of this storm, and nothing else, and the number is that of its premise line
pub record IsToldWhole (n : ℕ) (k : StormCommand) (c : Call) : Type 0 where
  pub end : World Any
  pub runs : StormsTo kv k (Ok end)
  pub code : n ≡ premise_code (premise_of end)
  pub whole : Gets c.met.out (summary_of end)

-- the words ask for a node, the input tells that it sets up a party, and no object has counted a fault. Datagrams may be lost
pub record IsClearForNode (c : Call) (k : NodeCommand) : Type 0 where
  pub words : AsksNode c.words k
  pub text : List ℕ
  pub node : NodeText
  pub input : c.met.input.before.left ≡ Some text
  pub short : length text ≤ most_bytes
  pub reads : node_in (lines_of text) ≡ Ok node
  pub read : Rose c.met.input.before.faults c.met.input.after.faults → ⊥
  pub out : HasFailed c.met.out → ⊥
  pub err : HasFailed c.met.err → ⊥
  pub link : Rose c.met.link.before.faults c.met.link.after.faults → ⊥

-- the party was served to the end; or it is a client whose turns were used before its commands were answered; or an allocation
-- failed
abbrev pub IsServedOut : ℕ → NodeText → Call → Type 0
IsServedOut n node c =
    ((n ≡ 0) × ServesNode c)
    ⊎ (((n ≡ 8) × (is_client node.keys.me ≡ true) × ((unanswered : ℕ) × StopsNode (stop.Serving (serving.TurnsSpent unanswered)) c))
    ⊎ (n ≡ 9))

-- the number is that of a status that has its cause. Where nothing stands in the way and no allocation fails, it is that of the
-- premise line. Where keys are asked for, they are written whole. Where a storm is asked for, its summary is written whole and the
-- number is that of the premise line, or its packets pass the limit of bytes and the number is 7. Where a node is asked for, its
-- party is served out. Where an audit is asked for, the number says whether someone is accused
pub record HasCauseOf (n : ℕ) (c : Call) : Type 0 where
  pub status : Status
  pub code : n ≡ code_of status
  pub cause : StatusCause status c
  pub complete : (clear : IsClear c) → (n ≡ premise_code (premise_of clear.end)) ⊎ (n ≡ 9)
  pub keys : (k : KeysCommand) → IsClearForKeys c k → ((n ≡ 0) × Gets c.met.out (key_text k)) ⊎ (n ≡ 9)
  pub storm : (k : StormCommand) → IsClearForStorm c k → IsToldWhole n k c ⊎ ((Passes k × (n ≡ 7)) ⊎ (n ≡ 9))
  pub node : (k : NodeCommand) → (clear : IsClearForNode c k) → IsServedOut n clear.node c
  pub audit : (clear : IsClearForAudit c) → IsVerdict n clear.audit
