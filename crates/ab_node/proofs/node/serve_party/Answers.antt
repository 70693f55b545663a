use Rattle.std.proofs.Common.{ℕ, map, sym}
use Rattle.arrayvec.specs.ArrayVec.{ArrayVec}
use Rattle.ab_num.specs.declared.plan.ServiceName.TheVariants.{Echo, Kv}
use Rattle.ab_io.specs.States.{change}
use Rattle.ab_loop.specs.Edges.{LeavesFront, edge, keep_state}
use Rattle.ab_node.specs.Nodes.{node_call}
use Rattle.ab_node.proofs.TextLemmas.{replica_serves, replica_stops}
use Rattle.ab_node.proofs.node.serve_party.Goals as goal

pub returns-in-Echo-clause-ok : goal.returns-in-Echo-clause-ok
returns-in-Echo-clause-ok g c =
    let x = node_call c.args.asked.now c.args.past (change (g.C.Clock.state c.args.clock.now) (g.C.Clock.state c.serve_replica.new.clock))
    (edge (g.O.Sink.state c.args.out.now) (g.L.Link.state c.args.link.now) (keep_state g.D.Disk.model g.R.Keeper.kept c.args.keeper.now c.args.disk.now))
    (edge (g.O.Sink.state c.serve_replica.new.out) (g.L.Link.state c.serve_replica.new.link) (keep_state g.D.Disk.model g.R.Keeper.kept c.serve_replica.new.keeper c.serve_replica.new.disk)) in
    replica_serves x (LeavesFront g.D.Disk.model g.R.Keeper.list_of (g.R.Keeper.kept c.args.keeper.now c.args.disk.now) c.args.disk.now c.serve_replica.new.disk) c.args.keys.now (map (λ (v : ArrayVec ℕ). v.items) c.args.commands) c.in-Replica.me (sym c.in-Replica.ensures.me) Echo (sym c.in-Echo.ensures) c.serve_replica.result c.serve_replica.ensures.ok

pub returns-in-Echo-clause-cause : goal.returns-in-Echo-clause-cause
returns-in-Echo-clause-cause g c =
    let x = node_call c.args.asked.now c.args.past (change (g.C.Clock.state c.args.clock.now) (g.C.Clock.state c.serve_replica.new.clock))
    (edge (g.O.Sink.state c.args.out.now) (g.L.Link.state c.args.link.now) (keep_state g.D.Disk.model g.R.Keeper.kept c.args.keeper.now c.args.disk.now))
    (edge (g.O.Sink.state c.serve_replica.new.out) (g.L.Link.state c.serve_replica.new.link) (keep_state g.D.Disk.model g.R.Keeper.kept c.serve_replica.new.keeper c.serve_replica.new.disk)) in
    replica_stops x (LeavesFront g.D.Disk.model g.R.Keeper.list_of (g.R.Keeper.kept c.args.keeper.now c.args.disk.now) c.args.disk.now c.serve_replica.new.disk) c.args.keys.now (map (λ (v : ArrayVec ℕ). v.items) c.args.commands) c.in-Replica.me (sym c.in-Replica.ensures.me) Echo (sym c.in-Echo.ensures) c.serve_replica.result c.serve_replica.ensures.cause

pub returns-in-Kv-clause-ok : goal.returns-in-Kv-clause-ok
returns-in-Kv-clause-ok g c =
    let x = node_call c.args.asked.now c.args.past (change (g.C.Clock.state c.args.clock.now) (g.C.Clock.state c.serve_replica-in-Kv.new.clock))
    (edge (g.O.Sink.state c.args.out.now) (g.L.Link.state c.args.link.now) (keep_state g.D.Disk.model g.R.Keeper.kept c.args.keeper.now c.args.disk.now))
    (edge (g.O.Sink.state c.serve_replica-in-Kv.new.out) (g.L.Link.state c.serve_replica-in-Kv.new.link) (keep_state g.D.Disk.model g.R.Keeper.kept c.serve_replica-in-Kv.new.keeper c.serve_replica-in-Kv.new.disk)) in
    replica_serves x (LeavesFront g.D.Disk.model g.R.Keeper.list_of (g.R.Keeper.kept c.args.keeper.now c.args.disk.now) c.args.disk.now c.serve_replica-in-Kv.new.disk) c.args.keys.now (map (λ (v : ArrayVec ℕ). v.items) c.args.commands) c.in-Replica.me (sym c.in-Replica.ensures.me) Kv (sym c.in-Kv.ensures) c.serve_replica-in-Kv.result c.serve_replica-in-Kv.ensures.ok

pub returns-in-Kv-clause-cause : goal.returns-in-Kv-clause-cause
returns-in-Kv-clause-cause g c =
    let x = node_call c.args.asked.now c.args.past (change (g.C.Clock.state c.args.clock.now) (g.C.Clock.state c.serve_replica-in-Kv.new.clock))
    (edge (g.O.Sink.state c.args.out.now) (g.L.Link.state c.args.link.now) (keep_state g.D.Disk.model g.R.Keeper.kept c.args.keeper.now c.args.disk.now))
    (edge (g.O.Sink.state c.serve_replica-in-Kv.new.out) (g.L.Link.state c.serve_replica-in-Kv.new.link) (keep_state g.D.Disk.model g.R.Keeper.kept c.serve_replica-in-Kv.new.keeper c.serve_replica-in-Kv.new.disk)) in
    replica_stops x (LeavesFront g.D.Disk.model g.R.Keeper.list_of (g.R.Keeper.kept c.args.keeper.now c.args.disk.now) c.args.disk.now c.serve_replica-in-Kv.new.disk) c.args.keys.now (map (λ (v : ArrayVec ℕ). v.items) c.args.commands) c.in-Replica.me (sym c.in-Replica.ensures.me) Kv (sym c.in-Kv.ensures) c.serve_replica-in-Kv.result c.serve_replica-in-Kv.ensures.cause
