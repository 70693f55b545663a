use Rattle.std.specs.Prelude.{map}
use Rattle.ab_io.specs.States.{change, outside}
use Rattle.ab_command.specs.Calls.{call}
use Rattle.ab_command.specs.Clusters.{cluster_call}
use Rattle.ab_command.proofs.Answering.{answers}
use Rattle.ab_node.specs.Journals.{crash_between, disk_state}
use Rattle.ab_command.specs.Journals.{disk_call}
use Rattle.ab_command.proofs.ClusterStatuses.{cluster_answers}
use Rattle.ab_command.proofs.JournalStatuses.{journal_answers}
use Rattle.ab_command.proofs.top.run.Goals as goal

pub returns-clause-cause : goal.returns-clause-cause
returns-clause-cause g c =
    let met = outside (change (g.I.Source.state c.args.input.now) (g.I.Source.state c.serve-status.new.input))
    (change (g.O.Sink.state c.args.out.now) (g.O.Sink.state c.serve-status.new.out)) (change (g.E.Sink.state c.args.err.now) (g.E.Sink.state c.serve-status.new.err))
    (change (g.L.Link.state c.args.link.now) (g.L.Link.state c.serve-status.new.link)) (change (g.C.Clock.state c.args.clock.now) (g.C.Clock.state c.serve-status.new.clock)) in
    λ other. answers c.one_reading.ensures c.code.result (call (map (λ w. w.now) c.args.words.now) met) c.serve-status.result c.code.ensures (c.serve-status.ensures.cause other)

pub returns-clause-cluster : goal.returns-clause-cluster
returns-clause-cluster g c =
    let met = cluster_call (change (g.I.Source.state c.args.input.now) (g.I.Source.state c.serve-status.new.input))
    (change (g.O.Sink.state c.args.out.now) (g.O.Sink.state c.serve-status.new.out)) (change (g.E.Sink.state c.args.err.now) (g.E.Sink.state c.serve-status.new.err))
    (change (g.W.Spawner.state c.args.spawner.now) (g.W.Spawner.state c.serve-status.new.spawner)) in
    let counted = c.conclusions_are_counted.ensures in
    λ k asks. cluster_answers counted.unknown counted.well c.code.result k met c.serve-status.result c.code.ensures (c.serve-status.ensures.cluster k asks)

pub returns-clause-journal : goal.returns-clause-journal
returns-clause-journal g c =
    let met = outside (change (g.I.Source.state c.args.input.now) (g.I.Source.state c.serve-status.new.input))
    (change (g.O.Sink.state c.args.out.now) (g.O.Sink.state c.serve-status.new.out)) (change (g.E.Sink.state c.args.err.now) (g.E.Sink.state c.serve-status.new.err))
    (change (g.L.Link.state c.args.link.now) (g.L.Link.state c.serve-status.new.link)) (change (g.C.Clock.state c.args.clock.now) (g.C.Clock.state c.serve-status.new.clock)) in
    let disk = change (disk_state g.D.Disk.model c.args.disk.now) (disk_state g.D.Disk.model c.serve-status.new.disk) in
    λ k asks. journal_answers c.code.result k (disk_call (call (map (λ w. w.now) c.args.words.now) met) disk) (crash_between g.D.Disk.model c.args.disk.now c.serve-status.new.disk) c.serve-status.result c.code.ensures (c.serve-status.ensures.journal k asks)
