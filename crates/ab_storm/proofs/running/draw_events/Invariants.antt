use Rattle.std.proofs.Common.{◌≡◌, ◌+◌, ◌-◌, ◌≤◌, ◌++◌, All}
use Rattle.ab_text.specs.EventLines.{IsEvent}
use Rattle.ab_world.specs.Runs.{outcome}
use Rattle.ab_storm.specs.Runs.{drawn_events}
use Rattle.ab_storm.specs.Standing.{Goes}
use Rattle.ab_storm.proofs.running.draw_events.Given as goal

-- what is kept and what is still drawn is all, and has lines
abbrev pub invariant-loop-done : goal.invariant-loop-done
invariant-loop-done g l = record {
  rest : outcome g.P.Protocol.proto (l._done + 1) l.world (drawn_events g.P.Protocol.proto (l.events - l._done) l.storm l.world) ≡ outcome g.P.Protocol.proto 1 l.initial.world (drawn_events g.P.Protocol.proto l.events l.initial.storm l.initial.world);
  counted : l.world.cast.events ≤ l._done;
  goes : Goes l.storm l.world;
  drawn : l.kept ++ drawn_events g.P.Protocol.proto (l.events - l._done) l.storm l.world ≡ drawn_events g.P.Protocol.proto l.events l.initial.storm l.initial.world;
  lines : All IsEvent l.kept;
}
