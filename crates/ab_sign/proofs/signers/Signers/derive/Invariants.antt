use Rattle.std.proofs.Common.{◌≡◌, map}
use Rattle.std.specs.List.{range_with_len}
use Rattle.ab_sign.specs.Signers.{derived_key}
use Rattle.ab_sign.proofs.signers.Signers.derive.Given as goal

abbrev pub invariant-replicas : goal.invariant-replicas
invariant-replicas l = l.keys.items ≡ map (derived_key l.scheme l.seed) (range_with_len 0 l.r)
