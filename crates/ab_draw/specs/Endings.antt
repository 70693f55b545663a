-- How a call of the program ends, with the cause of each status.
use Rattle.std.specs.Prelude.{◌≡◌, ℕ, Bool, false, IsTrue, List, ◌⊎◌, codes}
use Rattle.ab_io.specs.Causes.{Rose}
use Rattle.ab_io.specs.States.{Change, SinkState, SourceState}
use Rattle.ab_replay.specs.Replays.{IsRefused, HasTooManyEvents, HasTooManyBytes}
use Rattle.ab_replay.specs.Streams.{IsTooLong}
use Rattle.ab_command.specs.declared.status.Bound.TheVariants.{Bytes, Events, Packets}
use Rattle.ab_command.specs.declared.status.Status.{Status}
use Rattle.ab_command.specs.declared.status.Status.TheVariants.{Done, Broken, Usage, Refused, ReadFault, WriteFault, LinkFault, Limit, TurnsSpent, OutOfMemory, DiskFault, JournalRefused, ChildFault}
use Rattle.ab_command.specs.Endings.{HasInput, FailsToWrite, OnlySays, SaysNoMemoryOrUsage}
use Rattle.ab_command.specs.Outputs.{Gets, GetsFront, IsKept}
use Rattle.ab_draw.specs.Draws.{Draws}

-- what is said where there are words
abbrev pub usage_text : List ℕ
usage_text = codes "usage: draw < SCHEDULE > PICTURE\n"

-- out got the picture of the run that the input spells, and nothing else
abbrev pub HasPicture : Change SourceState → Change SinkState → Type 0
HasPicture input out = (svg : List ℕ) × HasInput (λ text. Draws text svg) input.before.left × Gets out svg

-- out got a front of it
abbrev pub HasPart : Change SourceState → Change SinkState → Type 0
HasPart input out = (svg : List ℕ) × HasInput (λ text. Draws text svg) input.before.left × GetsFront out svg

-- there were no words, and out got a front of the picture; or it got nothing
abbrev pub HasFront : Bool → Change SourceState → Change SinkState → Type 0
HasFront words input out = IsKept out ⊎ ((words ≡ false) × HasPart input out)

-- when each status comes, with words or without, and what it leaves on out and err
abbrev pub DrawCause : Status → Bool → Change SourceState → Change SinkState → Change SinkState → Type 0
DrawCause Done words input out err = ((words ≡ false) × HasPicture input out) × IsKept err
DrawCause Broken words input out err = ⊥
DrawCause Usage words input out err = IsTrue words × IsKept out × Gets err usage_text
DrawCause (Refused r) words input out err =
    (words ≡ false) × HasInput (λ text. IsRefused text r) input.before.left × OnlySays (Refused r) out err
DrawCause ReadFault words input out err = (words ≡ false) × Rose input.before.faults input.after.faults × OnlySays ReadFault out err
DrawCause WriteFault words input out err = FailsToWrite out err × HasFront words input out
DrawCause LinkFault words input out err = ⊥
DrawCause (Limit Bytes) words input out err = (words ≡ false) × IsTooLong input.before.left × OnlySays (Limit Bytes) out err
DrawCause (Limit Events) words input out err =
    (words ≡ false) × HasInput HasTooManyEvents input.before.left × OnlySays (Limit Events) out err
DrawCause (Limit Packets) words input out err =
    (words ≡ false) × HasInput HasTooManyBytes input.before.left × OnlySays (Limit Packets) out err
DrawCause (TurnsSpent n) words input out err = ⊥
DrawCause OutOfMemory words input out err = HasFront words input out × SaysNoMemoryOrUsage (IsTrue words) usage_text err
DrawCause DiskFault words input out err = ⊥
DrawCause (JournalRefused n) words input out err = ⊥
DrawCause ChildFault words input out err = ⊥
