-- Replays of schedules.
use Rattle.std.specs.Prelude.{◌≡◌, ◌⊎◌, ◌↔◌, ⊤, ℕ, ◌+◌, ◌<◌, Bool, IsTrue, if◌then◌else◌, Option, List, [], ◌∷◌, Result, Ok, Err, drop, length}
use Rattle.ab_num.specs.declared.party.Party.TheVariants.{Replica}
use Rattle.ab_num.specs.declared.plan.ServiceName.{ServiceName}
use Rattle.ab_num.specs.declared.plan.ServiceName.TheVariants.{Echo, Kv}
use Rattle.ab_text.specs.declared.event.Event.{Event}
use Rattle.ab_text.specs.declared.fault.TextFault.{TextFault}
use Rattle.ab_text.specs.declared.fault.TextFault.TheVariants as text_fault
use Rattle.ab_text.specs.declared.line.Premise.TheVariants.{Held}
use Rattle.ab_text.specs.Heads.{Script, head_count_in}
use Rattle.ab_text.specs.Lines.{lines_of}
use Rattle.ab_text.specs.Reports.{Log, report_text}
use Rattle.ab_text.specs.Schedules.{ReadsText}
use Rattle.ab_svc.specs.Machines.{Machine}
use Rattle.ab_svc.specs.Echoes.{echo_machine}
use Rattle.ab_kv.specs.KvMachines.{kv_machine}
use Rattle.ab_num.specs.declared.cluster.Cluster.{Cluster}
use Rattle.ab_num.specs.Limits.{most_events}
use Rattle.ab_abs.specs.Ensembles.{Proto}
use Rattle.ab_replica.specs.Sites.{Site}
use Rattle.ab_party.specs.Clusters.{IsSized}
use Rattle.ab_cast.specs.Setups.{Setup, is_bad}
use Rattle.ab_world.specs.declared.fault.WorldFault.{WorldFault}
use Rattle.ab_world.specs.declared.fault.WorldFault.TheVariants as world_fault
use Rattle.ab_world.specs.Lines.{entries_of}
use Rattle.ab_world.specs.Runs.{outcome}
use Rattle.ab_world.specs.Steps.{stepped}
use Rattle.ab_world.specs.Told.{IsTold}
use Rattle.ab_world.specs.Worlds.{World, start, premise_of}
use Rattle.ab_replay.specs.declared.refusal.RefusalCause.TheVariants.{BadLine, NoEnd, NotBuilt, NoPacket, BadParty, Busy}
use Rattle.ab_replay.specs.declared.refusal.Refusal.{Refusal}
use Rattle.ab_replay.specs.declared.fault.ReplayFault.{ReplayFault}
use Rattle.ab_replay.specs.declared.fault.ReplayFault.TheVariants as replaying
use Rattle.ab_replay.specs.Protocols.{Any, any}
use Rattle.ab_replay.specs.Streams.{IsInput, IsTooLong}
use Rattle.ab_io.specs.Causes.{Rose}

-- ---- runs

-- the protocol of replicas that serve this
abbrev pub proto_of : ServiceName → Proto Any
proto_of Echo = any echo_machine
proto_of Kv = any kv_machine

-- its cluster, in which parties have the keys of its seed
abbrev pub setup_in : Cluster → Script → Setup
setup_in c s = record { cluster = c; faulty = s.faulty; lms = s.lms; seed = s.seed }

-- the world after all events of a schedule in a cluster, under a protocol, or the first refusal with its event's number
abbrev pub run_in : {P : Type 0} → Proto P → Cluster → Script → Result (World P) (ℕ × WorldFault)
run_in proto c s = outcome proto 1 (start proto (setup_in c s)) s.events

-- nothing is counted behind a refusal
abbrev pub counts_behind : {P : Type 0} → Result (World P) WorldFault → (World P → List ℕ) → List ℕ
counts_behind (Ok w) rest = rest w
counts_behind (Err fault) rest = []

-- how many packets there are after each of these events
abbrev pub counts_of : {P : Type 0} → Proto P → World P → List Event → List ℕ
counts_of proto w [] = []
counts_of proto w (e ∷ es) = counts_behind (stepped proto w e) (λ v. length v.packets ∷ counts_of proto v es)

-- and after each event of a schedule in a cluster
abbrev pub counts_in : {P : Type 0} → Proto P → Cluster → Script → List ℕ
counts_in proto c s = counts_of proto (start proto (setup_in c s)) s.events

-- the run of a schedule, in its cluster, comes to this
pub record RunsTo {P : Type 0} (proto : Proto P) (s : Script) (r : Result (World P) (ℕ × WorldFault)) : Type 0 where
  pub cluster : Cluster
  pub sized : IsSized cluster s.f s.clients s.plan s.every
  pub runs : run_in proto cluster s ≡ r

abbrev pub Runs : Script → Result (World Any) (ℕ × WorldFault) → Type 0
Runs s r = RunsTo (proto_of s.service) s r

-- ---- reports

-- the log of a replica, of which it shows the entries behind those that it has trimmed
abbrev pub log_of : {P : Type 0} → Proto P → ℕ → Site P → Log
log_of proto r s =
    let start = proto.trimmed s.rep.value in
    record { replica = r; instance = s.rep.at; start = start; entries = drop start (entries_of (proto.state s.rep.value).log) }

-- the logs of the correct replicas from number r on
abbrev pub logs_from : {P : Type 0} → Proto P → Setup → ℕ → List (Site P) → List Log
logs_from proto x r [] = []
logs_from proto x r (s ∷ rest) = if is_bad x (Replica r) then logs_from proto x (r + 1) rest else log_of proto r s ∷ logs_from proto x (r + 1) rest

abbrev pub report_of : {P : Type 0} → Proto P → World P → List ℕ
report_of proto w = report_text w.lines (logs_from proto w.cast.setup 0 w.cast.replicas) (premise_of w) w.cast.events (length w.packets)

-- ---- what is told

-- the run of a schedule with a service, by a protocol, leads here, and this is its report, which tells of that run
pub record Performs {S P : Type 0} (machine : Machine S) (proto : Proto P) (s : Script) (report : List ℕ) (held : Bool) : Type 0 where
  pub cluster : Cluster
  pub sized : IsSized cluster s.f s.clients s.plan s.every
  pub end : World P
  pub runs : run_in proto cluster s ≡ Ok end
  pub reports : report ≡ report_of proto end
  pub says : IsTrue held ↔ (premise_of end ≡ Held)
  pub told : IsTold machine proto (setup_in cluster s) s.events end

-- the same with the service that is named
abbrev pub PerformsAs : ServiceName → Script → List ℕ → Bool → Type 0
PerformsAs Echo s report held = Performs echo_machine (any echo_machine) s report held
PerformsAs Kv s report held = Performs kv_machine (any kv_machine) s report held

-- the text is a schedule within the limits that runs, this is the report of its run, and its run keeps what Abstract promises
-- of the service that the schedule names
pub record Replays (text report : List ℕ) (held : Bool) : Type 0 where
  pub schedule : Script
  pub reads : ReadsText text (Ok schedule)
  pub performs : PerformsAs schedule.service schedule report held

-- ---- faults

-- why a text that is no schedule has no report
abbrev pub fault_of_text : TextFault → ReplayFault
fault_of_text (text_fault.BadLine n) = replaying.Refused (record { line = n; cause = BadLine })
fault_of_text (text_fault.NoEnd n) = replaying.Refused (record { line = n; cause = NoEnd })
fault_of_text (text_fault.NotBuilt n) = replaying.Refused (record { line = n; cause = NotBuilt })
fault_of_text text_fault.OutOfMemory = replaying.OutOfMemory

-- why a schedule has no report whose event in this line was not taken. No schedule that was read has a bad command
abbrev pub fault_of_step : ℕ → WorldFault → ReplayFault
fault_of_step line world_fault.BadCommand = replaying.Refused (record { line = line; cause = BadLine })
fault_of_step line world_fault.NoPacket = replaying.Refused (record { line = line; cause = NoPacket })
fault_of_step line world_fault.BadParty = replaying.Refused (record { line = line; cause = BadParty })
fault_of_step line world_fault.Busy = replaying.Refused (record { line = line; cause = Busy })
fault_of_step line world_fault.EventLimit = replaying.TooManyEvents
fault_of_step line world_fault.PacketLimit = replaying.TooManyPackets
fault_of_step line world_fault.OutOfMemory = replaying.OutOfMemory

-- the line before that of the first event: the head, the faulty parties and `run` stand before it
abbrev pub lines_before : List ℕ → Script → ℕ
lines_before text s = head_count_in (lines_of text) + 1 + length s.faulty

-- a line is out of form, missing or not built
pub record IsBadText (text : List ℕ) (r : Refusal) : Type 0 where
  pub fault : TextFault
  pub reads : ReadsText text (Err fault)
  pub refuses : fault_of_text fault ≡ replaying.Refused r

-- the schedule is read, and an event is refused
pub record IsBadEvent (text : List ℕ) (r : Refusal) : Type 0 where
  pub schedule : Script
  pub event : ℕ
  pub fault : WorldFault
  pub reads : ReadsText text (Ok schedule)
  pub few : length schedule.events < 100001
  pub runs : Runs schedule (Err (event, fault))
  pub refuses : fault_of_step (lines_before text schedule + event) fault ≡ replaying.Refused r

-- the first line that is refused, and why
abbrev pub IsRefused : List ℕ → Refusal → Type 0
IsRefused text r = IsBadText text r ⊎ IsBadEvent text r

-- the text is a schedule of more events than a world takes
abbrev pub HasTooManyEvents : List ℕ → Type 0
HasTooManyEvents text = (s : Script) × ReadsText text (Ok s) × (most_events < length s.events)

-- the text is a schedule whose packets would have more bytes than a world keeps
pub record HasTooManyBytes (text : List ℕ) : Type 0 where
  pub schedule : Script
  pub event : ℕ
  pub reads : ReadsText text (Ok schedule)
  pub few : length schedule.events < 100001
  pub runs : Runs schedule (Err (event, world_fault.PacketLimit))

-- when each fault of a run over events comes, where the first of them stands in the line after this one
abbrev pub EventsCause : {P : Type 0} → ReplayFault → ℕ → Result (World P) (ℕ × WorldFault) → Type 0
EventsCause (replaying.Refused r) line o = (n : ℕ) × (f : WorldFault) × (o ≡ Err (n, f)) × (fault_of_step (line + n) f ≡ replaying.Refused r)
EventsCause replaying.OutOfMemory line o = ⊤
EventsCause replaying.TooManyPackets line o = (n : ℕ) × (o ≡ Err (n, world_fault.PacketLimit))
EventsCause replaying.TooManyEvents line o = ⊥
EventsCause replaying.Read line o = ⊥
EventsCause replaying.TooLong line o = ⊥

-- when each fault of a replay of a text comes
abbrev pub TextCause : ReplayFault → List ℕ → Type 0
TextCause (replaying.Refused r) text = IsRefused text r
TextCause replaying.TooManyEvents text = HasTooManyEvents text
TextCause replaying.TooManyPackets text = HasTooManyBytes text
TextCause replaying.OutOfMemory text = ⊤
TextCause replaying.Read text = ⊥
TextCause replaying.TooLong text = ⊥

-- when each fault of a replay of an input comes: by what was left of it, and its count of faults
abbrev pub ReplayCause : ReplayFault → Option (List ℕ) → ℕ → ℕ → Type 0
ReplayCause (replaying.Refused r) left before now = (text : List ℕ) × IsInput left text × IsRefused text r
ReplayCause replaying.TooManyEvents left before now = (text : List ℕ) × IsInput left text × HasTooManyEvents text
ReplayCause replaying.TooManyPackets left before now = (text : List ℕ) × IsInput left text × HasTooManyBytes text
ReplayCause replaying.OutOfMemory left before now = ⊤
ReplayCause replaying.Read left before now = Rose before now
ReplayCause replaying.TooLong left before now = IsTooLong left
