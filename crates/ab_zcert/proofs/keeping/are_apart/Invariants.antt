use Rattle.std.proofs.Common.{◌≡◌, drop, map}
use Rattle.ab_abs.specs.Certificates.{are_apart}
use Rattle.ab_zcert.proofs.keeping.are_apart.Given as goal

abbrev pub invariant-sigs : goal.invariant-sigs
invariant-sigs l = are_apart (map (λ s. s.0) l.sigs) ≡ are_apart (map (λ s. s.0) (drop l.i l.sigs))
