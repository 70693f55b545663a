use Rattle.std.proofs.Common.{◌≡◌, drop}
use Rattle.ab_abs.specs.Certificates.{are_apart}
use Rattle.ab_stable.proofs.certificate.are_apart.Given as goal

abbrev pub invariant-loop-k : goal.invariant-loop-k
invariant-loop-k l = are_apart (drop l.k l.by) ≡ are_apart l.by
