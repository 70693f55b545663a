-- The number and the text of each status.
use Rattle.std.specs.Prelude.{ℕ, List, [], codes, decimal}
use Rattle.ab_text.specs.Reports.{◌then◌}
use Rattle.ab_loop.specs.declared.fault.ServeFault.{ServeFault}
use Rattle.ab_loop.specs.declared.fault.ServeFault.TheVariants as serving
use Rattle.ab_node.specs.declared.stop.Stop.{Stop}
use Rattle.ab_node.specs.declared.stop.Stop.TheVariants as stop
use Rattle.ab_replay.specs.declared.fault.ReplayFault.{ReplayFault}
use Rattle.ab_replay.specs.declared.fault.ReplayFault.TheVariants as replaying
use Rattle.ab_replay.specs.Refusals.{refusal_text}
use Rattle.ab_command.specs.declared.status.Bound.TheVariants.{Bytes, Events, Packets}
use Rattle.ab_command.specs.declared.status.Status.{Status}
use Rattle.ab_command.specs.declared.status.Status.TheVariants.{Done, Broken, Usage, Refused, ReadFault, WriteFault, LinkFault, Limit, TurnsSpent, OutOfMemory, DiskFault, JournalRefused, ChildFault}

-- the number that the program ends with
abbrev pub code_of : Status → ℕ
code_of Done = 0
code_of Broken = 1
code_of Usage = 2
code_of (Refused r) = 3
code_of ReadFault = 4
code_of WriteFault = 5
code_of LinkFault = 6
code_of (Limit b) = 7
code_of (TurnsSpent n) = 8
code_of OutOfMemory = 9
code_of DiskFault = 10
code_of (JournalRefused n) = 11
code_of ChildFault = 12

-- so many commands are unanswered
abbrev pub turns_text : ℕ → List ℕ
turns_text n = codes "turns spent " then decimal n then codes "\n"

-- this entry of a journal is refused, the first of them has the number 1
abbrev pub journal_text : ℕ → List ℕ
journal_text n = codes "journal refused " then decimal n then codes "\n"

-- what the program says of a status
abbrev pub text_of : Status → List ℕ
text_of Done = []
text_of Broken = []
text_of Usage = codes "usage: abstract_bft <keys|node|replay|storm> [options]\n"
text_of (Refused r) = refusal_text r
text_of ReadFault = codes "read fault\n"
text_of WriteFault = codes "write fault\n"
text_of LinkFault = codes "link fault\n"
text_of (Limit Bytes) = codes "limit bytes\n"
text_of (Limit Events) = codes "limit events\n"
text_of (Limit Packets) = codes "limit packets\n"
text_of (TurnsSpent n) = turns_text n
text_of OutOfMemory = codes "out of memory\n"
text_of DiskFault = codes "disk fault\n"
text_of (JournalRefused n) = journal_text n
text_of ChildFault = codes "child fault\n"

-- the status of a schedule that wasn't replayed, by its fault
abbrev pub fault_status : ReplayFault → Status
fault_status replaying.Read = ReadFault
fault_status replaying.TooLong = Limit Bytes
fault_status (replaying.Refused r) = Refused r
fault_status replaying.TooManyEvents = Limit Events
fault_status replaying.TooManyPackets = Limit Packets
fault_status replaying.OutOfMemory = OutOfMemory

-- the status of a node that was served, by why it stopped
abbrev pub status_of : ServeFault → Status
status_of serving.LinkFailed = LinkFault
status_of serving.WriteFailed = WriteFault
status_of serving.KeepFailed = DiskFault
status_of serving.OutOfMemory = OutOfMemory
status_of (serving.TurnsSpent n) = TurnsSpent n

-- and of any node that stopped
abbrev pub stop_status : Stop → Status
stop_status stop.Read = ReadFault
stop_status stop.TooLong = Limit Bytes
stop_status (stop.Refused r) = Refused r
stop_status (stop.Serving why) = status_of why
stop_status stop.Disk = DiskFault
stop_status (stop.Journal n) = JournalRefused n
stop_status stop.OutOfMemory = OutOfMemory
