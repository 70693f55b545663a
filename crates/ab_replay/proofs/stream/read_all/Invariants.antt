use Rattle.std.proofs.Common.{◌-◌, ◌≤◌, vec_len}
use Rattle.std.specs.Io.KnownBytes.{Consumes}
use Rattle.ab_replay.proofs.stream.read_all.Given as goal

abbrev pub invariant-reading : goal.invariant-reading
invariant-reading g l = record {
  taken : Consumes (g.I.Source.state l.initial.input).left (g.I.Source.state l.input).left l.all.items;
  later : (g.I.Source.state l.initial.input).faults ≤ (g.I.Source.state l.input).faults;
}

abbrev pub decreases-reading : goal.decreases-reading
decreases-reading g l = 67108865 - vec_len l.all
