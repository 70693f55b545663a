use Rattle.std.proofs.Common.{◌≡◌, ◌+◌, ◌*◌, [], ◌∷◌, ◌++◌, map, ap, ◌∙◌, arith}
use Rattle.std.specs.Borrow.{Bor}
use Rattle.std.specs.Option.{option_map}
use Rattle.ab_num.specs.declared.party.Party.TheVariants.{Replica}
use Rattle.ab_text.specs.Texts.{text_of}
use Rattle.ab_cluster.specs.declared.spawner.Ended.{Ended}
use Rattle.ab_cluster.specs.Children.{ending}
use Rattle.ab_cluster.specs.Gathering.{outcome_of}
use Rattle.ab_cluster.specs.Reports.{child_line, ended_at}
use Rattle.ab_cluster.proofs.ReportLemmas.{lines_more, report_is}
use Rattle.ab_cluster.proofs.report.cluster_report.Goals as goal

pub loop-r-preserved : goal.loop-r-preserved
loop-r-preserved c =
    lines_more (map outcome_of c.args.all.now) c.loop-r.r c.loop-r.out.items c.add_child.new.out.items c.loop-r.invariant
    (c.in_ok-add_child.ensures ∙ ap (λ e. c.loop-r.out.items ++ text_of (child_line (Replica c.loop-r.r) e ∷ [])) c.ended_at.ensures)

pub returns : goal.returns
returns c =
    let all = map outcome_of c.args.all.now in
    let count : c.loop-r.r ≡ 3 * c.args.cluster.now.f + 1 = omega (arith, c.loop-r-test.false, c.loop-r.auto.r-end, c.replicas-replicas.ensures) in
    let last : c.replicas-replicas.result ≡ c.loop-r.r = omega (arith, c.loop-r-test.false, c.loop-r.auto.r-end) in
    report_is c.args.cluster.now.f all c.loop-r.r c.loop-r.out.items c.add_child-2.new.out.items c.add_out.new.out.items (option_map (λ (e : Bor Ended). ending e.now) c.ended_at-client.result)
    count c.loop-r.invariant c.in_ok-add_child-2.ensures (c.ended_at-client.ensures ∙ ap (ended_at all) last) c.in_ok-add_out.ensures
