use Rattle.std.proofs.Common.{◌-◌, ◌≤◌, length, take}
use Rattle.std.specs.Io.KnownBytes.{Appends}
use Rattle.ab_replay.proofs.stream.write_all.Given as goal

abbrev pub invariant-writing : goal.invariant-writing
invariant-writing g l = record {
  added : Appends (g.K.Sink.state l.initial.sink).held (g.K.Sink.state l.sink).held (take l.done l.bytes);
  within : l.done ≤ length l.bytes;
  later : (g.K.Sink.state l.initial.sink).faults ≤ (g.K.Sink.state l.sink).faults;
}

abbrev pub decreases-writing : goal.decreases-writing
decreases-writing g l = length l.bytes - l.done
