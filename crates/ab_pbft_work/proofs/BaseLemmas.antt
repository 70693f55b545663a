-- The base that a certificate offers after instance 1.
use Rattle.std.proofs.Common.{◌≡◌, ℕ, zero, suc, ◌-◌, ◌<◌, List, ap, arith}
use Rattle.ab_num.specs.declared.cluster.Cluster.{Cluster}
use Rattle.ab_msg.specs.declared.signed.Signed.{Signed}
use Rattle.ab_abs.specs.Certificates.{history_of}
use Rattle.ab_order.specs.Readings.{base_offered}

pub later_base : (c : Cluster) (i : ℕ) (cert : List Signed) → 1 < i → history_of c (i - 1) cert ≡ base_offered c i cert
later_base c zero cert later = absurd (omega arith)
later_base c (suc zero) cert later = absurd (omega arith)
later_base c (suc (suc j)) cert later = ap (λ k. history_of c k cert) (omega arith)
