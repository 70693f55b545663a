use Rattle.std.proofs.Common.{◌≡◌, map}
use Rattle.ab_text.specs.Texts.{text_of}
use Rattle.ab_cluster.specs.Gathering.{outcome_of}
use Rattle.ab_cluster.proofs.ReportLemmas.{replica_lines}
use Rattle.ab_cluster.proofs.report.cluster_report.Given as goal

abbrev pub invariant-loop-r : goal.invariant-loop-r
invariant-loop-r l = l.out.items ≡ text_of (replica_lines (map outcome_of l.all) l.r)
