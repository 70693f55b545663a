use Rattle.std.proofs.Common.{◌≤◌}
use Rattle.ab_loop.proofs.PastRunLemmas.{Restoring}
use Rattle.ab_loop.proofs.node.Node.restore.Given as goal

abbrev pub invariant-events : goal.invariant-events
invariant-events g l = record {
  restoring : Restoring g.K.PartyCore.rules l.setting l.t l.past l.initial.self l.self l.waits (g.O.Sink.state l.initial.out).held (g.O.Sink.state l.out).held l.i;
  later : (g.O.Sink.state l.initial.out).faults ≤ (g.O.Sink.state l.out).faults;
}
