-- What a program says of how a call of it ends, and what it leaves on its outputs.
use Rattle.std.specs.Prelude.{◌≡◌, ℕ, List, Option, ◌⊎◌}
use Rattle.ab_io.specs.States.{Change, SinkState}
use Rattle.ab_replay.specs.Streams.{IsInput}
use Rattle.ab_command.specs.declared.status.Status.{Status}
use Rattle.ab_command.specs.declared.status.Status.TheVariants.{Usage, WriteFault, OutOfMemory}
use Rattle.ab_command.specs.Outputs.{IsKept, Gets, GetsFront, GetsPart, HasFailed}
use Rattle.ab_command.specs.Texts.{text_of}

-- the input was read to its end, of no more bytes than a program reads, and its bytes are so
abbrev pub HasInput : (List ℕ → Type 0) → Option (List ℕ) → Type 0
HasInput Is left = (text : List ℕ) × IsInput left text × Is text

-- the status was said on err
abbrev pub Says : Status → Change SinkState → Type 0
Says s err = Gets err (text_of s)

-- it was, and nothing was written to out
abbrev pub OnlySays : Status → Change SinkState → Change SinkState → Type 0
OnlySays s out err = IsKept out × Says s err

-- out failed, and that was said on err, or err failed
abbrev pub FailsToWrite : Change SinkState → Change SinkState → Type 0
FailsToWrite out err = (HasFailed out × Says WriteFault err) ⊎ HasFailed err

-- a failed allocation was said on err, unless err had no memory for all of what it was given
abbrev pub SaysNoMemory : Change SinkState → Type 0
SaysNoMemory err = Says OutOfMemory err ⊎ ((s : Status) × GetsPart err (text_of s))

-- a status that was to be said on err: it was, or err failed, or an allocation failed
abbrev pub Settles : Status → Status → Change SinkState → Type 0
Settles r s err = ((r ≡ s) × Says s err) ⊎ (((r ≡ WriteFault) × HasFailed err) ⊎ ((r ≡ OutOfMemory) × SaysNoMemory err))

-- a usage line that was to be said on err: it was, or err failed, or an allocation failed
abbrev pub SettlesUsage : Status → List ℕ → Change SinkState → Type 0
SettlesUsage r usage err = ((r ≡ Usage) × Gets err usage) ⊎ (((r ≡ WriteFault) × HasFailed err) ⊎ ((r ≡ OutOfMemory) × GetsPart err usage))

-- a failed allocation was said on err, unless err had no memory for all of what it was given, which may be the usage line where
-- words are wrong
abbrev pub SaysNoMemoryOrUsage : Type 0 → List ℕ → Change SinkState → Type 0
SaysNoMemoryOrUsage AreWrong usage err = SaysNoMemory err ⊎ (AreWrong × GetsPart err usage)

-- a text that was to be written to out, with the status of a call that did: out got it and nothing was said, or out got a front of it,
-- and that out or an allocation failed was to be said on err
abbrev pub WritesOrSays : Status → Status → List ℕ → Change SinkState → Change SinkState → Type 0
WritesOrSays r s text out err =
    ((r ≡ s) × Gets out text × IsKept err)
    ⊎ (GetsFront out text × ((HasFailed out × Settles r WriteFault err) ⊎ Settles r OutOfMemory err))
