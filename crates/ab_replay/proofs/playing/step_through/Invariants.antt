use Rattle.std.proofs.Common.{◌≡◌, ◌+◌, ◌≤◌, ◌++◌, drop, None}
use Rattle.ab_world.specs.Runs.{outcome}
use Rattle.ab_replay.specs.Replays.{counts_of}
use Rattle.ab_replay.proofs.playing.step_through.Given as goal

abbrev pub invariant-loop-i : goal.invariant-loop-i
invariant-loop-i g l = record {
  rest : outcome g.P.Protocol.proto (l.i + 1) l.world (drop l.i l.events) ≡ outcome g.P.Protocol.proto 1 l.initial.world l.events;
  told : l.counts.items ++ counts_of g.P.Protocol.proto l.world (drop l.i l.events) ≡ counts_of g.P.Protocol.proto l.initial.world l.events;
  counted : l.world.cast.events ≤ l.i;
  goes : l.world.ended ≡ None;
}
