-- What comes to a replica or a client.
use Rattle.ab_wire.specs.Views.{IsReceived, message as message_of}
use Rattle.ab_abs.specs.Messages.{Call, took, timed}
use Rattle.ab_run.specs.Local.{Cue, cue_message, cue_time}
use Rattle.ab_party.specs.declared.cue.Cue.{Cue as CueRef}
use Rattle.ab_party.specs.declared.cue.Cue.TheVariants as cue

-- a message that was read from bytes, or a timer that ran out
abbrev pub IsCue : CueRef → Type 0
IsCue (cue.Message m) = IsReceived m
IsCue cue.Time = Unit {0}

-- to a client, and to a replica
abbrev pub cue_of : CueRef → Cue
cue_of (cue.Message m) = cue_message (message_of m)
cue_of cue.Time = cue_time

abbrev pub call_of : CueRef → Call
call_of (cue.Message m) = took (message_of m)
call_of cue.Time = timed
