use Rattle.ab_loop.specs.Edges.{LeavesFront, edge, keep_state}
use Rattle.ab_loop.specs.Runs.{start_of}
use Rattle.ab_loop.proofs.DriveLemmas.{Driving}
use Rattle.ab_loop.proofs.serving.drive.Given as goal

abbrev pub invariant-turns : goal.invariant-turns
invariant-turns g l = record {
  driving : Driving g.K.PartyCore.rules (start_of l.setting l.turns l.fn.core l.past l.fn.commands (g.C.Clock.state l.fn.clock) (g.L.Link.state l.fn.link)) l.node l.lost
      (edge (g.O.Sink.state l.fn.out) (g.L.Link.state l.fn.link) (keep_state g.D.Disk.model g.J.Keeper.kept l.fn.keeper l.fn.disk))
      (edge (g.O.Sink.state l.out) (g.L.Link.state l.link) (keep_state g.D.Disk.model g.J.Keeper.kept l.keeper l.disk))
      (LeavesFront g.D.Disk.model g.J.Keeper.list_of (g.J.Keeper.kept l.fn.keeper l.fn.disk) l.fn.disk l.disk) (g.C.Clock.state l.clock).readings l._turn;
  ready : g.J.Keeper.ready l.keeper l.disk;
}
