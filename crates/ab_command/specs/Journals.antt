-- How a call of a node with a journal ends, with the cause of each status.
use Rattle.std.specs.Prelude.{◌≡◌, ◌≤◌, ◌⊎◌, ℕ, List, Some, Ok, true, IsSome, length}
use Rattle.ab_io.specs.Causes.{Rose}
use Rattle.ab_io.specs.States.{Change}
use Rattle.ab_text.specs.Lines.{lines_of}
use Rattle.ab_key_text.specs.Nodes.{NodeText, node_in}
use Rattle.ab_words.specs.Commands.{NodeCommand}
use Rattle.ab_loop.specs.declared.fault.ServeFault.TheVariants as serving
use Rattle.ab_loop.specs.declared.serving.Served.{Served}
use Rattle.ab_loop.specs.Nodes.{is_client}
use Rattle.ab_node.specs.declared.stop.Stop.{Stop}
use Rattle.ab_node.specs.declared.stop.Stop.TheVariants as stop
use Rattle.ab_node.specs.Journals.{DiskState, IsServedOn, JournalCall, JournalCause, JournalCrash, Refuses, journal_call}
use Rattle.ab_replay.specs.Streams.{most_bytes}
use Rattle.ab_command.specs.declared.status.Bound.TheVariants.{Bytes, Events, Packets}
use Rattle.ab_command.specs.declared.status.Status.{Status}
use Rattle.ab_command.specs.declared.status.Status.TheVariants.{Done, Broken, Usage, Refused, ReadFault, WriteFault, LinkFault, Limit, TurnsSpent, OutOfMemory, DiskFault, JournalRefused, ChildFault}
use Rattle.ab_command.specs.Calls.{Call}
use Rattle.ab_command.specs.Endings.{FailsToWrite, HasInput, Says, SaysNoMemory}
use Rattle.ab_command.specs.Outputs.{HasFailed, IsKept}
use Rattle.ab_command.specs.Texts.{code_of}

-- what a node with a journal met: a call, and what became of the disk
pub record DiskCall : Type 0 where
  pub call : Call
  pub disk : Change DiskState

abbrev pub disk_call : Call → Change DiskState → DiskCall
disk_call c disk = record { call = c; disk = disk }

-- what it met, as its node sees it
abbrev pub on_disk : NodeCommand → DiskCall → JournalCall
on_disk k c = journal_call k c.call.met.clock c.call.met.out c.call.met.link c.disk

-- the input sets up a party, and it was served to the end, after the events of its journal
abbrev pub ServesOn : NodeCommand → DiskCall → JournalCrash → Type 0
ServesOn k c crash = HasInput (λ text. (served : Served) × IsServedOn text (on_disk k c) crash served) c.call.met.input.before.left

-- the node stopped for this
abbrev pub StopsOn : Stop → NodeCommand → DiskCall → JournalCrash → Type 0
StopsOn why k c crash = JournalCause why c.call.met.input (on_disk k c) crash

-- out got nothing, or a front of what its party's events write
abbrev pub HasNodeFront : NodeCommand → DiskCall → JournalCrash → Type 0
HasNodeFront k c crash = IsKept c.call.met.out ⊎ ((why : Stop) × StopsOn why k c crash)

-- when each status comes, and what it leaves on out, err and the disk
abbrev pub JournalStatusCause : Status → NodeCommand → DiskCall → JournalCrash → Type 0
JournalStatusCause Done k c crash = ServesOn k c crash × IsKept c.call.met.err
JournalStatusCause Broken k c crash = ⊥
JournalStatusCause Usage k c crash = ⊥
JournalStatusCause (Refused r) k c crash = StopsOn (stop.Refused r) k c crash × Says (Refused r) c.call.met.err
JournalStatusCause ReadFault k c crash = StopsOn stop.Read k c crash × Says ReadFault c.call.met.err
JournalStatusCause WriteFault k c crash = FailsToWrite c.call.met.out c.call.met.err × HasNodeFront k c crash
JournalStatusCause LinkFault k c crash = StopsOn (stop.Serving serving.LinkFailed) k c crash × Says LinkFault c.call.met.err
JournalStatusCause (Limit Bytes) k c crash = StopsOn stop.TooLong k c crash × Says (Limit Bytes) c.call.met.err
JournalStatusCause (Limit Events) k c crash = ⊥
JournalStatusCause (Limit Packets) k c crash = ⊥
JournalStatusCause (TurnsSpent n) k c crash = StopsOn (stop.Serving (serving.TurnsSpent n)) k c crash × Says (TurnsSpent n) c.call.met.err
JournalStatusCause OutOfMemory k c crash = HasNodeFront k c crash × SaysNoMemory c.call.met.err
JournalStatusCause DiskFault k c crash = (StopsOn stop.Disk k c crash ⊎ StopsOn (stop.Serving serving.KeepFailed) k c crash) × Says DiskFault c.call.met.err
JournalStatusCause (JournalRefused n) k c crash = StopsOn (stop.Journal n) k c crash × Says (JournalRefused n) c.call.met.err
JournalStatusCause ChildFault k c crash = ⊥

-- The input tells that it sets up a party, the disk tells its bytes, no entry of its journal is refused, and no object has counted a
-- fault. Datagrams may be lost.
pub record IsClearOnDisk (c : DiskCall) : Type 0 where
  pub text : List ℕ
  pub node : NodeText
  pub input : c.call.met.input.before.left ≡ Some text
  pub short : length text ≤ most_bytes
  pub reads : node_in (lines_of text) ≡ Ok node
  pub told : IsSome c.disk.before.seen
  pub journal : (n : ℕ) → Refuses c.disk.before text n → ⊥
  pub read : Rose c.call.met.input.before.faults c.call.met.input.after.faults → ⊥
  pub out : HasFailed c.call.met.out → ⊥
  pub err : HasFailed c.call.met.err → ⊥
  pub link : Rose c.call.met.link.before.faults c.call.met.link.after.faults → ⊥
  pub disk : Rose c.disk.before.faults c.disk.after.faults → ⊥

-- the party was served to the end; or it is a client whose turns were used before its commands were answered; or an allocation
-- failed
abbrev pub IsServedOutOn : ℕ → NodeText → NodeCommand → DiskCall → JournalCrash → Type 0
IsServedOutOn n node k c crash =
    ((n ≡ 0) × ServesOn k c crash)
    ⊎ (((n ≡ 8) × (is_client node.keys.me ≡ true) × ((unanswered : ℕ) × StopsOn (stop.Serving (serving.TurnsSpent unanswered)) k c crash))
    ⊎ (n ≡ 9))

-- the number is that of a status that has its cause. It is 10 only where the disk has counted a fault. Where nothing stands in the
-- way, the party is served out
pub record HasJournalCauseOf (n : ℕ) (k : NodeCommand) (c : DiskCall) (crash : JournalCrash) : Type 0 where
  pub status : Status
  pub code : n ≡ code_of status
  pub cause : JournalStatusCause status k c crash
  pub failed : n ≡ 10 → Rose c.disk.before.faults c.disk.after.faults
  pub complete : (clear : IsClearOnDisk c) → IsServedOutOn n clear.node k c crash
