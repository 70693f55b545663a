-- What a source and a sink over a stream of std are.
use Rattle.std.specs.Prelude.{ℕ, None}
use Rattle.ab_io.specs.States.{SinkState, SourceState}

-- a reader or a writer, and how often it has failed
pub record StdStream (S : Type 0) : Type 0 where
  pub stream : S
  pub faults : ℕ

-- what it tells as a source: none of its bytes
abbrev pub source_of : {R : Type 0} → StdStream R → SourceState
source_of s = record { left = None; faults = s.faults }

-- and as a sink
abbrev pub sink_of : {W : Type 0} → StdStream W → SinkState
sink_of s = record { held = None; faults = s.faults }
