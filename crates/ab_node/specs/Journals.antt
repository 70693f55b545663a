-- A node that keeps its events in a journal, and goes on with those that it finds there.
use Rattle.std.specs.Prelude.{◌≡◌, ◌⊎◌, ◌≤◌, ℕ, List, ◌∷◌, map, Option, IfSome, is_some, ⊤}
use Rattle.ab_io.specs.Causes.{Rose}
use Rattle.ab_io.specs.States.{Change, ClockState, LinkState, SinkState, SourceState}
use Rattle.ab_disk.specs.Disks.{DiskModel, LeavesOnly, Outcomes}
use Rattle.ab_journal.specs.Entries.{bodies_of}
use Rattle.ab_journal.specs.Keepers.{listed}
use Rattle.ab_words.specs.Commands.{NodeCommand}
use Rattle.ab_loop.specs.declared.fault.ServeFault.{ServeFault}
use Rattle.ab_loop.specs.declared.serving.Served.{Served}
use Rattle.ab_loop.specs.Edges.{Crash, HasFront, edge}
use Rattle.ab_loop.specs.Cores.{NodeEvent}
use Rattle.ab_loop.specs.Past.{body_of}
use Rattle.ab_restart.specs.Pasts.{IsForeign, IsPast, first_body}
use Rattle.ab_replay.specs.Streams.{IsInput, IsTooLong}
use Rattle.ab_node.specs.declared.stop.Stop.{Stop}
use Rattle.ab_node.specs.declared.stop.Stop.TheVariants as stop
use Rattle.ab_node.specs.Nodes.{IsRefused, IsServed, IsStopped, NodeCall}

-- what a disk tells: its bytes, and how often it has failed
pub record DiskState : Type 0 where
  pub seen : Option (List ℕ)
  pub faults : ℕ

abbrev pub disk_state : {D : Type 0} → DiskModel D → D → DiskState
disk_state m d = record { seen = m.seen d; faults = m.faults d }

-- what a node with a journal is asked for, and what becomes of clock, sink, link and disk
pub record JournalCall : Type 0 where
  pub asked : NodeCommand
  pub clock : Change ClockState
  pub out : Change SinkState
  pub link : Change LinkState
  pub disk : Change DiskState

abbrev pub journal_call : NodeCommand → Change ClockState → Change SinkState → Change LinkState → Change DiskState → JournalCall
journal_call asked clock out link disk = record { asked = asked; clock = clock; out = out; link = link; disk = disk }

-- the journal of a text's party: a body that names the text, and then one for each of these events
abbrev pub journal_of : List ℕ → List NodeEvent → List (List ℕ)
journal_of text events = first_body text ∷ map body_of events

-- entry n, from 1, is the first that the journal of this text can't have, where the disk tells
abbrev pub Refuses : DiskState → List ℕ → ℕ → Type 0
Refuses disk text n = IfSome (listed disk.seen) (λ bodies. IsForeign (first_body text) bodies n)

-- The node goes on after the events that the disk has for this text, where it tells: none, if it has no journal yet. Then its journal
-- has these events and no others, and after it what the disk has.
pub record Resumes (j : JournalCall) (text : List ℕ) (x : NodeCall) : Type 0 where
  pub asked : x.asked ≡ j.asked
  pub clock : x.clock ≡ j.clock
  pub out : x.old.out ≡ j.out.before
  pub link : x.old.link ≡ j.link.before
  pub past : IfSome (listed j.disk.before.seen) (λ bodies. IsPast (first_body text) bodies x.past)
  pub told : is_some x.old.keep.kept ≡ is_some j.disk.before.seen
  pub kept : IfSome x.old.keep.kept (λ bodies. bodies ≡ journal_of text x.past)
  pub later : j.disk.before.faults ≤ x.old.keep.faults
  pub new : x.new ≡ edge j.out.after j.link.after (record { kept = listed j.disk.after.seen; faults = j.disk.after.faults })

-- what might have been left at first, or these bodies, or others and a front of more
abbrev pub MayLeave : Outcomes → List (List ℕ) → List (List ℕ) → List (List ℕ) → Outcomes
MayLeave first had before more c = first c ⊎ ((bodies_of c ≡ had) ⊎ HasFront before more (bodies_of c))

-- what is known of a crash while a node handles more than the journal has for a text with these events
abbrev pub JournalCrash : Type 1
JournalCrash = List ℕ → List NodeEvent → Crash

-- A crash at any moment of what took a disk from old to new leaves what it might have left at first; or the journal that was there; or
-- that of the events from before, and a front of those that are kept. Nothing is known of a disk that doesn't tell.
abbrev pub crash_between : {D : Type 0} → DiskModel D → D → D → JournalCrash
crash_between m old new text past more = IfSome (m.seen old) (λ bytes. LeavesOnly m old new (MayLeave (m.may_leave old) (bodies_of bytes) (journal_of text past) more))

-- the party that the text sets up was served to the end
pub record IsServedOn (text : List ℕ) (j : JournalCall) (crash : JournalCrash) (served : Served) : Type 0 where
  pub node : NodeCall
  pub resumes : Resumes j text node
  pub run : IsServed text node (crash text node.past) served

-- it was served, and the node stopped for this
pub record IsStoppedOn (text : List ℕ) (j : JournalCall) (crash : JournalCrash) (why : ServeFault) : Type 0 where
  pub node : NodeCall
  pub resumes : Resumes j text node
  pub fault : IsStopped text node (crash text node.past) why

-- sink, link and clock are as before
pub record IsSilent (j : JournalCall) : Type 0 where
  pub clock : j.clock.after ≡ j.clock.before
  pub out : j.out.after ≡ j.out.before
  pub link : j.link.after ≡ j.link.before

-- and so is the disk
pub record IsUntouched (j : JournalCall) : Type 0 where
  pub silent : IsSilent j
  pub disk : j.disk.after ≡ j.disk.before

-- when a node with a journal stops for each reason
abbrev pub JournalCause : Stop → Change SourceState → JournalCall → JournalCrash → Type 0
JournalCause stop.Read input j crash = Rose input.before.faults input.after.faults × IsUntouched j
JournalCause stop.TooLong input j crash = IsTooLong input.before.left × IsUntouched j
JournalCause (stop.Refused r) input j crash = ((text : List ℕ) × IsInput input.before.left text × IsRefused text r) × IsUntouched j
JournalCause (stop.Serving why) input j crash = (text : List ℕ) × IsInput input.before.left text × IsStoppedOn text j crash why
JournalCause stop.Disk input j crash = Rose j.disk.before.faults j.disk.after.faults × IsSilent j
JournalCause (stop.Journal n) input j crash =
    ((text : List ℕ) × IsInput input.before.left text × Refuses j.disk.before text n) × IsSilent j
JournalCause stop.OutOfMemory input j crash = IsSilent j

-- the same of a text that sets up a party
abbrev pub PartyJournalCause : Stop → List ℕ → JournalCall → JournalCrash → Type 0
PartyJournalCause stop.Read text j crash = ⊥
PartyJournalCause stop.TooLong text j crash = ⊥
PartyJournalCause (stop.Refused r) text j crash = IsRefused text r × IsUntouched j
PartyJournalCause (stop.Serving why) text j crash = IsStoppedOn text j crash why
PartyJournalCause stop.Disk text j crash = Rose j.disk.before.faults j.disk.after.faults × IsSilent j
PartyJournalCause (stop.Journal n) text j crash = Refuses j.disk.before text n × IsSilent j
PartyJournalCause stop.OutOfMemory text j crash = IsSilent j

-- when a journal isn't restored for the party of a text
abbrev pub RestoreCause : Stop → List ℕ → Change DiskState → Type 0
RestoreCause stop.Read text disk = ⊥
RestoreCause stop.TooLong text disk = ⊥
RestoreCause (stop.Refused r) text disk = ⊥
RestoreCause (stop.Serving why) text disk = ⊥
RestoreCause stop.Disk text disk = Rose disk.before.faults disk.after.faults
RestoreCause (stop.Journal n) text disk = Refuses disk.before text n
RestoreCause stop.OutOfMemory text disk = ⊤
