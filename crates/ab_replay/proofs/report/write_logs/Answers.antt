use Rattle.std.proofs.Common.{◌≡◌, ◌<◌, ◌+◌, ◌++◌, flat_map, drop, length, ap, ◌∙◌, sym, arith, rules}
use Rattle.ab_num.specs.declared.cluster.Cluster.{Cluster}
use Rattle.ab_num.specs.declared.party.Party.TheVariants.{Replica}
use Rattle.ab_cast.specs.Setups.{Setup, is_bad}
use Rattle.ab_text.specs.Reports.{log_text}
use Rattle.ab_replay.specs.Replays.{logs_from}
use Rattle.ab_replay.proofs.ReportLemmas.{passed_by, written_log}
use Rattle.ab_replay.proofs.report.write_logs.Goals as goal
use Rattle.ab_replay.proofs.report.write_logs.Goals.{then-not-is_faulty+in_ok-write_log_of, else-not-is_faulty}

pub loop-r-preserved : goal.loop-r-preserved
loop-r-preserved g c =
    let proto = g.P.Protocol.proto in
    let x = c.args.world.now.cast.setup in
    let replicas = c.args.world.now.cast.replicas in
    let r = c.loop-r.r in
    let before = c.loop-r.out.items in
    let whole = c.args.out.now.items ++ flat_map log_text (logs_from proto x 0 replicas) in
    let within : r < length replicas = omega (arith, c.loop-r-test.true, c.replicas-r-end.ensures, ap (λ (k : Cluster). k.f) c.cluster.ensures, ap (λ (y : Setup). y.cluster.f) c.setup.ensures, c.requires) in
    let asked : c.is_faulty.result ≡ is_bad x (Replica r) = search rules in
    elim c.if-not-is_faulty.branch [
      | then-not-is_faulty+in_ok-write_log_of w ↦
          let is : c.if-not-is_faulty.out.items ≡ w.write_log_of.new.out.items = ap (λ o. o.items) w.out-is in
          ap (λ t. t ++ flat_map log_text (logs_from proto x (r + 1) (drop (r + 1) replicas))) is
          ∙ written_log proto x whole before w.write_log_of.new.out.items replicas r within (sym asked ∙ w.if-not-is_faulty.true) (w.in_ok-write_log_of.ensures) c.loop-r.invariant
      | else-not-is_faulty w ↦
          ap (λ t. t ++ flat_map log_text (logs_from proto x (r + 1) (drop (r + 1) replicas))) (ap (λ o. o.items) w.out-is)
          ∙ passed_by proto x whole before replicas r within (sym asked ∙ w.if-not-is_faulty.false) c.loop-r.invariant
    ]
