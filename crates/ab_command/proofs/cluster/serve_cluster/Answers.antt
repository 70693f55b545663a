use Rattle.std.proofs.Common.{◌≡◌, ℕ, List, map, sym, ap, ◌∙◌, subst}
use Rattle.ab_io.specs.States.{change}
use Rattle.ab_cluster.specs.Children.{Job}
use Rattle.ab_cluster.specs.Gathering.{Gathers, Outcome, job_of, outcome_of}
use Rattle.ab_cluster.specs.Jobs.{cluster_jobs}
use Rattle.ab_cluster.specs.Reports.{conclusion_of, report_text}
use Rattle.ab_command.specs.Clusters.{WritesConclusion, cluster_call}
use Rattle.ab_command.proofs.ClusterStatuses.{report_told}
use Rattle.ab_command.proofs.cluster.serve_cluster.Goals as goal

pub returns : goal.returns
returns g c =
    let asked = c.args.asked.now in
    let commands = map (λ x. x.items) c.in-Ok.commands in
    let old = g.W.Spawner.state c.args.spawner.now in
    let new = g.W.Spawner.state c.gather.new.w in
    let input = change (g.I.Source.state c.args.input.now) (g.I.Source.state c.commands_from.new.input) in
    let out = change (g.O.Sink.state c.args.out.now) (g.O.Sink.state c.tell.new.out) in
    let err = change (g.E.Sink.state c.args.err.now) (g.E.Sink.state c.tell.new.err) in
    let all = map outcome_of c.as_slice-2.result.now in
    let jobs : map job_of c.as_slice.result.now ≡ cluster_jobs asked commands = ap (map job_of) c.as_slice.ensures.value ∙ c.in-Ok-cluster_jobs.ensures in
    let same : map outcome_of c.in-Ok-gather.all.items ≡ all = ap (map outcome_of) (sym c.as_slice-2.ensures.value) in
    let gathers : Gathers (cluster_jobs asked commands) old new all =
    subst (λ (os : List Outcome). Gathers (cluster_jobs asked commands) old new os) same
    (subst (λ (js : List Job). Gathers js old new (map outcome_of c.in-Ok-gather.all.items)) jobs c.in-Ok-gather.ensures.ok) in
    let told = subst (λ (f : ℕ). WritesConclusion c.tell.result (report_text f all) (conclusion_of all) out err) c.cluster.ensures.f c.tell.ensures in
    report_told asked (cluster_call input out err (change old new)) c.tell.result all (record { commands = commands; input = c.in-Ok.ensures.ok; gathers = gathers }) told
