-- How a call of the program ends, with the cause of each status.
use Rattle.std.specs.Prelude.{ℕ, List, ◌∷◌, ◌⊎◌, codes}
use Rattle.ab_io.specs.States.{Change, SinkState}
use Rattle.ab_words.specs.Commands.{StormCommand}
use Rattle.ab_command.specs.declared.status.Bound.TheVariants.{Bytes, Events, Packets}
use Rattle.ab_command.specs.declared.status.Status.{Status}
use Rattle.ab_command.specs.declared.status.Status.TheVariants.{Done, Broken, Usage, Refused, ReadFault, WriteFault, LinkFault, Limit, TurnsSpent, OutOfMemory, DiskFault, JournalRefused, ChildFault}
use Rattle.ab_command.specs.Commands.{AsksStorm}
use Rattle.ab_command.specs.Endings.{FailsToWrite, OnlySays, SaysNoMemoryOrUsage}
use Rattle.ab_command.specs.Outputs.{Gets, GetsFront, IsKept}
use Rattle.ab_command.specs.Statuses.{Passes}
use Rattle.ab_command.specs.Written.{WritesStorm}

-- what is said of words that ask for no storm
abbrev pub usage_text : List ℕ
usage_text = codes "usage: storm_schedule --plan P --f F --clients N --seed S --events E > SCHEDULE\n"

-- the options of the command `storm` ask for this storm
abbrev pub Asks : List (List ℕ) → StormCommand → Type 0
Asks options k = AsksStorm (codes "storm" ∷ options) k

-- the words ask for no storm
abbrev pub AsksNothing : List (List ℕ) → Type 0
AsksNothing options = (k : StormCommand) → Asks options k → ⊥

-- out got the schedule of the storm that the words ask for, and nothing else
abbrev pub HasSchedule : List (List ℕ) → Change SinkState → Type 0
HasSchedule options out = (k : StormCommand) × (text : List ℕ) × Asks options k × WritesStorm k text × Gets out text

-- out got a front of it, or nothing
abbrev pub HasFront : List (List ℕ) → Change SinkState → Type 0
HasFront options out = IsKept out ⊎ ((k : StormCommand) × (text : List ℕ) × Asks options k × WritesStorm k text × GetsFront out text)

-- the packets of an event of the storm that the words ask for would have more bytes than a world keeps
abbrev pub IsPast : List (List ℕ) → Type 0
IsPast options = (k : StormCommand) × Asks options k × Passes k

-- when each status comes, and what it leaves on out and err
abbrev pub ScheduleCause : Status → List (List ℕ) → Change SinkState → Change SinkState → Type 0
ScheduleCause Done options out err = HasSchedule options out × IsKept err
ScheduleCause Broken options out err = ⊥
ScheduleCause Usage options out err = AsksNothing options × IsKept out × Gets err usage_text
ScheduleCause (Refused r) options out err = ⊥
ScheduleCause ReadFault options out err = ⊥
ScheduleCause WriteFault options out err = FailsToWrite out err × HasFront options out
ScheduleCause LinkFault options out err = ⊥
ScheduleCause (Limit Bytes) options out err = ⊥
ScheduleCause (Limit Events) options out err = ⊥
ScheduleCause (Limit Packets) options out err = IsPast options × OnlySays (Limit Packets) out err
ScheduleCause (TurnsSpent n) options out err = ⊥
ScheduleCause OutOfMemory options out err = HasFront options out × SaysNoMemoryOrUsage (AsksNothing options) usage_text err
ScheduleCause DiskFault options out err = ⊥
ScheduleCause (JournalRefused n) options out err = ⊥
ScheduleCause ChildFault options out err = ⊥
