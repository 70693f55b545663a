use Rattle.std.proofs.Common.{arith}
use Rattle.ab_ckpt.proofs.MarkLemmas.{stays_by_replica, each_replica}
use Rattle.ab_ckpt.proofs.laws.kept_marks_are_the_latest.Goals as goal

pub returns : goal.returns
returns c = record { order = λ v marks all. stays_by_replica v 0 marks (omega arith) all; each = each_replica }
