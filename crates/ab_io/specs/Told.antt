-- What an object in memory tells.
use Rattle.std.specs.Prelude.{ℕ, List, ◌+◌, ◌-◌, ◌^◌, min, Bool, Some, nat_eq}
use Rattle.std.specs.List.{list_any}
use Rattle.ab_io.specs.Datagrams.{Datagram}
use Rattle.ab_io.specs.States.{LinkState, SinkState, SourceState}

-- how often a kind of call was made, how often it failed, and which calls fail, counted from 1
pub record CallPlan : Type 0 where
  pub made : ℕ
  pub fail : List ℕ

-- the count after one more call or fault
abbrev pub one_more : ℕ → ℕ
one_more count = min (count + 1) (2 ^ 64 - 1)

-- whether the next call fails
abbrev pub fails_next : CallPlan → Bool
fails_next calls = list_any (λ number. nat_eq number (one_more calls.made)) calls.fail

-- the calls after one more
abbrev pub one_call : CallPlan → CallPlan
one_call calls = record { made = one_more calls.made; fail = calls.fail }

-- the bytes that are left or held, how often it has failed, and its calls
pub record Told : Type 0 where
  pub bytes : List ℕ
  pub faults : ℕ
  pub calls : CallPlan

-- what that tells of a source
abbrev pub source_of : Told → SourceState
source_of s = record { left = Some s.bytes; faults = s.faults }

-- and of a sink
abbrev pub sink_of : Told → SinkState
sink_of s = record { held = Some s.bytes; faults = s.faults }

-- bytes that are left in a source that never fails
abbrev pub sure_source : List ℕ → SourceState
sure_source bytes = record { left = Some bytes; faults = 0 }

-- and those that are held by a sink that never fails
abbrev pub sure_sink : List ℕ → SinkState
sure_sink bytes = record { held = Some bytes; faults = 0 }

-- what is to come and what was sent, how often each kind of call has failed, and the calls of each kind
pub record ToldLink : Type 0 where
  pub to_come : List (List ℕ)
  pub sent : List Datagram
  pub faults : ℕ
  pub losses : ℕ
  pub opens : CallPlan
  pub recvs : CallPlan
  pub sends : CallPlan

-- what that tells of a link
abbrev pub link_of : ToldLink → LinkState
link_of l = record { to_come = Some l.to_come; sent = Some l.sent; faults = l.faults; losses = l.losses }
