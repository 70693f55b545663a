use Rattle.std.proofs.Common.{◌∙◌, ap}
use Rattle.ab_num.specs.declared.cluster.Cluster.{Cluster}
use Rattle.ab_storm.specs.Runs.{storm_of}
use Rattle.ab_storm.proofs.StormLemmas.{begins_early, begins_going}
use Rattle.ab_storm.proofs.Keeping.{all_ended, all_kept}
use Rattle.ab_storm.proofs.running.storm_over.Goals as goal

pub draw_events-requires-clause-goes : goal.draw_events-requires-clause-goes
draw_events-requires-clause-goes g c =
    let x = c.args.setup in
    let from = c.new-storm.ensures ∙ ap (λ (k : Cluster). storm_of k c.seed.result) c.cluster.ensures in
    begins_going g.P.Protocol.proto x.cluster x c.in_ok-world.world c.new-storm.result c.seed.result c.requires.setup c.in_ok-world.ensures from

pub draw_events-requires-clause-begins : goal.draw_events-requires-clause-begins
draw_events-requires-clause-begins g c =
    let x = c.args.setup in
    let from = c.new-storm.ensures ∙ ap (λ (k : Cluster). storm_of k c.seed.result) c.cluster.ensures in
    begins_early g.P.Protocol.proto x.cluster x c.in_ok-world.world c.new-storm.result c.seed.result c.requires.setup c.in_ok-world.ensures from

pub returns-in-Ok-clause-ok : goal.returns-in-Ok-clause-ok
returns-in-Ok-clause-ok g c =
    let from = c.new-storm.ensures ∙ ap (λ (k : Cluster). storm_of k c.seed.result) c.cluster.ensures in
    all_kept g.P.Protocol.proto c.args.asked.now c.args.setup c.in_ok-world.world c.new-storm.result c.seed.result c.events.result c.requires.sized c.requires.setup c.in_ok-world.ensures from c.seed.ensures c.events.ensures
    c.in-Ok.events c.draw_events.new.world c.in-Ok.ensures.ok c.in-Ok.ensures.kept c.in-Ok.ensures.lines

pub returns-in-Ok-clause-replicas : goal.returns-in-Ok-clause-replicas
returns-in-Ok-clause-replicas g c = c.in-Ok.ensures.goes.replicas

pub returns-in-Err-clause-cause : goal.returns-in-Err-clause-cause
returns-in-Err-clause-cause g c =
    let from = c.new-storm.ensures ∙ ap (λ (k : Cluster). storm_of k c.seed.result) c.cluster.ensures in
    all_ended g.P.Protocol.proto c.args.asked.now c.args.setup c.in_ok-world.world c.new-storm.result c.seed.result c.events.result c.requires.sized c.requires.setup c.in_ok-world.ensures from c.seed.ensures c.events.ensures
    c.in-Err.fault c.in-Err.ensures.cause
