-- How a call of the command `cluster` ends, with the cause of each status.
use Rattle.std.specs.Prelude.{◌≡◌, ◌≤◌, ◌⊎◌, ⊤, ℕ, List, Option, Some, Ok, Err, length}
use Rattle.ab_io.specs.Causes.{Rose}
use Rattle.ab_io.specs.States.{Change, SinkState, SourceState}
use Rattle.ab_text.specs.Lines.{lines_of}
use Rattle.ab_key_text.specs.declared.fault.NodeFault.{NodeFault}
use Rattle.ab_key_text.specs.Nodes.{commands_in}
use Rattle.ab_words.specs.Commands.{ClusterCommand}
use Rattle.ab_replay.specs.declared.refusal.Refusal.{Refusal}
use Rattle.ab_replay.specs.declared.fault.ReplayFault.{ReplayFault}
use Rattle.ab_replay.specs.declared.fault.ReplayFault.TheVariants as replaying
use Rattle.ab_replay.specs.Streams.{IsTooLong, most_bytes}
use Rattle.ab_cluster.specs.declared.report.Conclusion.{Conclusion}
use Rattle.ab_cluster.specs.declared.report.Conclusion.TheVariants.{Well, Ill, Unknown}
use Rattle.ab_cluster.specs.Children.{Children, SpawnerState, end_of}
use Rattle.ab_cluster.specs.Gathering.{Gathers, GathersFront, Outcome}
use Rattle.ab_cluster.specs.Jobs.{cluster_jobs}
use Rattle.ab_cluster.specs.Reports.{conclusion_of, report_text}
use Rattle.ab_command.specs.declared.status.Bound.TheVariants.{Bytes, Events, Packets}
use Rattle.ab_command.specs.declared.status.Status.{Status}
use Rattle.ab_command.specs.declared.status.Status.TheVariants.{Done, Broken, Usage, Refused, ReadFault, WriteFault, LinkFault, Limit, TurnsSpent, OutOfMemory, DiskFault, JournalRefused, ChildFault}
use Rattle.ab_command.specs.Audits.{fault_of_audit}
use Rattle.ab_command.specs.Endings.{HasInput, FailsToWrite, Says, SaysNoMemory, Settles}
use Rattle.ab_command.specs.Outputs.{Gets, GetsFront, HasFailed, IsKept}
use Rattle.ab_command.specs.Texts.{code_of}

-- what a call of `cluster` meets
pub record ClusterCall : Type 0 where
  pub input : Change SourceState
  pub out : Change SinkState
  pub err : Change SinkState
  pub children : Change SpawnerState

abbrev pub cluster_call : Change SourceState → Change SinkState → Change SinkState → Change SpawnerState → ClusterCall
cluster_call input out err children = record { input = input; out = out; err = err; children = children }

-- ---- the input

-- the input spells these commands
abbrev pub HasCommands : List (List ℕ) → Option (List ℕ) → Type 0
HasCommands commands left = HasInput (λ text. commands_in (lines_of text) ≡ Ok commands) left

-- a line is out of form or missing
pub record IsNoCommands (text : List ℕ) (r : Refusal) : Type 0 where
  pub fault : NodeFault
  pub reads : commands_in (lines_of text) ≡ Err fault
  pub refuses : fault_of_audit fault ≡ replaying.Refused r

-- when the commands of an input aren't had: by what was left of it, and its count of faults
abbrev pub CommandsCause : ReplayFault → Change SourceState → Type 0
CommandsCause (replaying.Refused r) input = HasInput (λ text. IsNoCommands text r) input.before.left
CommandsCause replaying.TooManyEvents input = ⊥
CommandsCause replaying.TooManyPackets input = ⊥
CommandsCause replaying.OutOfMemory input = ⊤
CommandsCause replaying.Read input = Rose input.before.faults input.after.faults
CommandsCause replaying.TooLong input = IsTooLong input.before.left

-- the same of a text that is there
abbrev pub CommandsTextCause : ReplayFault → List ℕ → Type 0
CommandsTextCause (replaying.Refused r) text = IsNoCommands text r
CommandsTextCause replaying.TooManyEvents text = ⊥
CommandsTextCause replaying.TooManyPackets text = ⊥
CommandsTextCause replaying.OutOfMemory text = ⊤
CommandsTextCause replaying.Read text = ⊥
CommandsTextCause replaying.TooLong text = ⊥

-- ---- the children

-- no child was started, and none was waited for
abbrev pub AreUntouched : Change SpawnerState → Type 0
AreUntouched children = children.after ≡ children.before

-- the jobs of these commands were gathered, and this became of them
abbrev pub AreGathered : ClusterCommand → List (List ℕ) → List Outcome → Change SpawnerState → Type 0
AreGathered k commands all children = Gathers (cluster_jobs k commands) children.before children.after all

-- what the input asks for was done
pub record IsGathered (k : ClusterCommand) (c : ClusterCall) (all : List Outcome) : Type 0 where
  pub commands : List (List ℕ)
  pub input : HasCommands commands c.input.before.left
  pub gathers : AreGathered k commands all c.children

-- memory was wanting: a front of the jobs was started, and each of their children was waited for
pub record IsGatheredFront (k : ClusterCommand) (c : ClusterCall) : Type 0 where
  pub commands : List (List ℕ)
  pub input : HasCommands commands c.input.before.left
  pub gathers : GathersFront (cluster_jobs k commands) c.children.before c.children.after

-- ---- the statuses

-- the children were gathered with this conclusion, and out got the report of them, and nothing else
pub record Concludes (k : ClusterCommand) (c : ClusterCall) (conclusion : Conclusion) : Type 0 where
  pub all : List Outcome
  pub gathered : IsGathered k c all
  pub concludes : conclusion_of all ≡ conclusion
  pub report : Gets c.out (report_text k.f all)

-- out got nothing, and the children weren't touched or a front of them was gathered; or they were gathered, and out got a front of
-- the report
abbrev pub HasClusterFront : ClusterCommand → ClusterCall → Type 0
HasClusterFront k c =
    (IsKept c.out × (AreUntouched c.children ⊎ IsGatheredFront k c))
    ⊎ ((all : List Outcome) × IsGathered k c all × GetsFront c.out (report_text k.f all))

-- when each status comes, and what it leaves on out, err and the children
abbrev pub ClusterCause : Status → ClusterCommand → ClusterCall → Type 0
ClusterCause Done k c = Concludes k c Well × IsKept c.err
ClusterCause Broken k c = Concludes k c Ill × IsKept c.err
ClusterCause Usage k c = ⊥
ClusterCause (Refused r) k c = HasInput (λ text. IsNoCommands text r) c.input.before.left × AreUntouched c.children × IsKept c.out × Says (Refused r) c.err
ClusterCause ReadFault k c = Rose c.input.before.faults c.input.after.faults × AreUntouched c.children × IsKept c.out × Says ReadFault c.err
ClusterCause WriteFault k c = FailsToWrite c.out c.err × HasClusterFront k c
ClusterCause LinkFault k c = ⊥
ClusterCause (Limit Bytes) k c = IsTooLong c.input.before.left × AreUntouched c.children × IsKept c.out × Says (Limit Bytes) c.err
ClusterCause (Limit Events) k c = ⊥
ClusterCause (Limit Packets) k c = ⊥
ClusterCause (TurnsSpent n) k c = ⊥
ClusterCause OutOfMemory k c = HasClusterFront k c × SaysNoMemory c.err
ClusterCause DiskFault k c = ⊥
ClusterCause (JournalRefused n) k c = ⊥
ClusterCause ChildFault k c = Concludes k c Unknown × Says ChildFault c.err

-- the report was written: what is given and said of each conclusion
abbrev pub ConcludesOn : Status → Conclusion → Change SinkState → Type 0
ConcludesOn r Well err = (r ≡ Done) × IsKept err
ConcludesOn r Ill err = (r ≡ Broken) × IsKept err
ConcludesOn r Unknown err = Settles r ChildFault err

-- a report that was to be written, and then a conclusion: out got it, or nothing or a front of it, and that out or an allocation failed
-- was to be said on err
abbrev pub WritesConclusion : Status → List ℕ → Conclusion → Change SinkState → Change SinkState → Type 0
WritesConclusion r text conclusion out err =
    (Gets out text × ConcludesOn r conclusion err)
    ⊎ ((IsKept out ⊎ GetsFront out text) × ((HasFailed out × Settles r WriteFault err) ⊎ Settles r OutOfMemory err))

-- the input tells that it spells commands within the limits, the children are told, each ends with status 0, and no object has
-- counted a fault
pub record IsClearForCluster (c : ClusterCall) : Type 0 where
  pub text : List ℕ
  pub commands : List (List ℕ)
  pub children : Children
  pub input : c.input.before.left ≡ Some text
  pub short : length text ≤ most_bytes
  pub reads : commands_in (lines_of text) ≡ Ok commands
  pub told : c.children.before.told ≡ Some children
  pub well : (n : ℕ) → (end_of children.ends n).status ≡ 0
  pub read : Rose c.input.before.faults c.input.after.faults → ⊥
  pub out : HasFailed c.out → ⊥
  pub err : HasFailed c.err → ⊥
  pub started : Rose c.children.before.faults c.children.after.faults → ⊥

-- the number is that of a status that has its cause. It is 12 only where the spawner has counted a fault. Where nothing stands in the
-- way, each child ends with 0 and no allocation fails, it is 0
pub record HasClusterCauseOf (n : ℕ) (k : ClusterCommand) (c : ClusterCall) : Type 0 where
  pub status : Status
  pub code : n ≡ code_of status
  pub cause : ClusterCause status k c
  pub failed : n ≡ 12 → Rose c.children.before.faults c.children.after.faults
  pub complete : IsClearForCluster c → (n ≡ 0) ⊎ (n ≡ 9)
