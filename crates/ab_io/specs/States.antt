-- What is told of each object of the outside, as one value, and what a call does with it.
use Rattle.std.specs.Prelude.{◌≡◌, ℕ, ◌+◌, ◌-◌, ◌^◌, ◌≤◌, min, List, Option, Result, OnOk, OnErr, IfErr, IfSome, is_some}
use Rattle.std.specs.Option.{option_map}
use Rattle.std.specs.Io.KnownBytes.{ReadConsumes, WriteAppends}
use Rattle.ab_io.specs.declared.fault.Failed.{Failed}
use Rattle.ab_io.specs.declared.fault.Refused.{Refused}
use Rattle.ab_io.specs.declared.link.Got.{Got}
use Rattle.ab_io.specs.Causes.{GotCause, RefusalCause, Rose}
use Rattle.ab_io.specs.Datagrams.{Datagram, FitsIn, Gives, left_after, longest_datagram, with_sent}
use Rattle.ab_io.specs.Readings.{Readings, later_readings, next_reading}

-- ---- what is told

-- of a source: what is left, where that is told, and how often it has failed
pub record SourceState : Type 0 where
  pub left : Option (List ℕ)
  pub faults : ℕ

-- of a sink: what it holds, where that is told, and how often it has failed
pub record SinkState : Type 0 where
  pub held : Option (List ℕ)
  pub faults : ℕ

-- of a link: the datagrams that are to come and those that were sent with their ports, where these are told, how often `open` and
-- `recv` have failed, and how often `send` has
pub record LinkState : Type 0 where
  pub to_come : Option (List (List ℕ))
  pub sent : Option (List Datagram)
  pub faults : ℕ
  pub losses : ℕ

-- of a clock: the readings to come, where these are told
pub record ClockState : Type 0 where
  pub readings : Option Readings

-- ---- what one call does

-- The next bytes were moved to the front of the buffer, none only at the end. It tells of its bytes as before. The count of faults
-- never falls, and a fault is answered only where it has risen
pub record Takes (old new : SourceState) (result : Result ℕ Failed) (buf : List ℕ) : Type 0 where
  pub told : is_some new.left ≡ is_some old.left
  pub bytes : ReadConsumes old.left new.left result buf
  pub later : old.faults ≤ new.faults
  pub failed : OnErr result (Rose old.faults new.faults)

-- As many bytes as it says were added, and none after a refusal. It tells of its bytes as before. The count of faults never falls,
-- and stands behind each refusal
pub record Puts (old new : SinkState) (result : Result ℕ Refused) (bytes : List ℕ) : Type 0 where
  pub told : is_some new.held ≡ is_some old.held
  pub adds : WriteAppends old.held new.held result bytes
  pub later : old.faults ≤ new.faults
  pub cause : IfErr result (λ why. RefusalCause why old.faults new.faults)

-- the port was opened. No datagram comes or goes by that
pub record Opens {T : Type 0} (old new : LinkState) (result : Result T Failed) : Type 0 where
  pub to_come : new.to_come ≡ old.to_come
  pub sent : new.sent ≡ old.sent
  pub later : old.faults ≤ new.faults
  pub failed : OnErr result (Rose old.faults new.faults)
  pub losses : new.losses ≡ old.losses

-- the next datagram came, or none. Nothing goes by that
pub record Receives (old new : LinkState) (got : Got) (buf : List ℕ) : Type 0 where
  pub gives : IfSome old.to_come (λ datagrams. Gives datagrams got buf)
  pub to_come : new.to_come ≡ left_after got old.to_come
  pub sent : new.sent ≡ old.sent
  pub later : old.faults ≤ new.faults
  pub failed : GotCause got old.faults new.faults
  pub losses : new.losses ≡ old.losses

-- a datagram was sent, or it was lost, or refused for want of memory. Nothing comes by that
pub record Sends {T : Type 0} (old new : LinkState) (result : Result T Refused) (port : ℕ) (bytes : List ℕ) : Type 0 where
  pub to_come : new.to_come ≡ old.to_come
  pub ok : OnOk result (new.sent ≡ with_sent old.sent port bytes)
  pub err : OnErr result (new.sent ≡ old.sent)
  pub faults : new.faults ≡ old.faults
  pub later : old.losses ≤ new.losses
  pub cause : IfErr result (λ why. RefusalCause why old.losses new.losses)

-- the next reading, and then the readings behind it
pub record Reads (old new : ClockState) (reading : ℕ) : Type 0 where
  pub is : IfSome old.readings (λ r. reading ≡ next_reading r)
  pub later : new.readings ≡ option_map later_readings old.readings

-- ---- what a run meets

-- a state before and after
pub record Change (S : Type 0) : Type 0 where
  pub before : S
  pub after : S

abbrev pub change : {S : Type 0} → S → S → Change S
change a b = record { before = a; after = b }

-- what becomes of all objects
pub record Outside : Type 0 where
  pub input : Change SourceState
  pub out : Change SinkState
  pub err : Change SinkState
  pub link : Change LinkState
  pub clock : Change ClockState

abbrev pub outside : Change SourceState → Change SinkState → Change SinkState → Change LinkState → Change ClockState → Outside
outside input out err link clock = record { input = input; out = out; err = err; link = link; clock = clock }
