use Rattle.std.proofs.Common.{◌∙◌}
use Rattle.ab_io.specs.States.{change}
use Rattle.ab_loop.specs.Edges.{LeavesFront, edge, keep_state}
use Rattle.ab_node.specs.Nodes.{node_call}
use Rattle.ab_node.proofs.PartyLemmas.{core_serves, core_stops}
use Rattle.ab_node.proofs.node.serve_core.Goals as goal

pub returns-clause-ok : goal.returns-clause-ok
returns-clause-ok g c =
    let x = node_call c.args.asked.now c.args.past (change (g.C.Clock.state c.args.clock.now) (g.C.Clock.state c.serve.new.clock))
    (edge (g.O.Sink.state c.args.out.now) (g.L.Link.state c.args.link.now) (keep_state g.D.Disk.model g.R.Keeper.kept c.args.keeper.now c.args.disk.now))
    (edge (g.O.Sink.state c.serve.new.out) (g.L.Link.state c.serve.new.link) (keep_state g.D.Disk.model g.R.Keeper.kept c.serve.new.keeper c.serve.new.disk)) in
    core_serves g.K.PartyCore.rules x (LeavesFront g.D.Disk.model g.R.Keeper.list_of (g.R.Keeper.kept c.args.keeper.now c.args.disk.now) c.args.disk.now c.serve.new.disk) c.args.me c.args.core c.args.commands c.setting_of.result c.from.result c.setting_of.ensures (c.from.ensures ∙ c.turns.ensures) c.serve.result c.serve.ensures.ok

pub returns-clause-cause : goal.returns-clause-cause
returns-clause-cause g c =
    let x = node_call c.args.asked.now c.args.past (change (g.C.Clock.state c.args.clock.now) (g.C.Clock.state c.serve.new.clock))
    (edge (g.O.Sink.state c.args.out.now) (g.L.Link.state c.args.link.now) (keep_state g.D.Disk.model g.R.Keeper.kept c.args.keeper.now c.args.disk.now))
    (edge (g.O.Sink.state c.serve.new.out) (g.L.Link.state c.serve.new.link) (keep_state g.D.Disk.model g.R.Keeper.kept c.serve.new.keeper c.serve.new.disk)) in
    core_stops g.K.PartyCore.rules x (LeavesFront g.D.Disk.model g.R.Keeper.list_of (g.R.Keeper.kept c.args.keeper.now c.args.disk.now) c.args.disk.now c.serve.new.disk) c.args.me c.args.core c.args.commands c.setting_of.result c.from.result c.setting_of.ensures (c.from.ensures ∙ c.turns.ensures) c.serve.result c.serve.ensures.err
