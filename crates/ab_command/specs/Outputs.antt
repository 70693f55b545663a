-- What becomes of an output of a program.
use Rattle.std.specs.Prelude.{ℕ, List}
use Rattle.std.specs.Io.KnownBytes.{Appends, Keeps}
use Rattle.ab_io.specs.Causes.{Rose}
use Rattle.ab_io.specs.States.{Change, SinkState}
use Rattle.ab_replay.specs.Streams.{AppendsFront, AppendsPart}

-- nothing was written to it
abbrev pub IsKept : Change SinkState → Type 0
IsKept o = Keeps o.before.held o.after.held

-- it got the text, and nothing else
abbrev pub Gets : Change SinkState → List ℕ → Type 0
Gets o text = Appends o.before.held o.after.held text

-- it got a front of the text
abbrev pub GetsFront : Change SinkState → List ℕ → Type 0
GetsFront o text = AppendsFront o.before.held o.after.held text

-- it got a front that isn't the whole
abbrev pub GetsPart : Change SinkState → List ℕ → Type 0
GetsPart o text = AppendsPart o.before.held o.after.held text

-- it counted a fault
abbrev pub HasFailed : Change SinkState → Type 0
HasFailed o = Rose o.before.faults o.after.faults
