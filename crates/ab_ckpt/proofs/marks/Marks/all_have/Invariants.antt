use Rattle.std.proofs.Common.{◌≡◌, true}
use Rattle.ab_ckpt.specs.Marks.{all_have as all_have_mark}
use Rattle.ab_ckpt.proofs.marks.Marks.all_have.Given as goal

abbrev pub invariant-replicas : goal.invariant-replicas
invariant-replicas l = all_have_mark l.n l.digest l.r l.self.marks ≡ true
