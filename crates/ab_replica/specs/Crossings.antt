-- How a certificate leads a replica to another instance.
use Rattle.std.specs.Prelude.{ℕ, ◌+◌, ◌==◌, ◌&&◌, ◌||◌, nat_le, nat_lt, if◌then◌else◌, Bool, Option, None, Some, List}
use Rattle.ab_num.specs.declared.cluster.Cluster.{Cluster}
use Rattle.ab_num.specs.Places.{kind_of}
use Rattle.ab_hist.specs.declared.request.Request.{Request}
use Rattle.ab_msg.specs.declared.signed.Signed.{Signed}
use Rattle.ab_abs.specs.Ensembles.{trimmed_entry}
use Rattle.ab_stable.specs.Offers.{Based, makes_checkpoints, offered_by, offered_start}
use Rattle.ab_run.specs.Setups.{last_instance}
use Rattle.ab_run.specs.Replicas.{cert_instance}
use Rattle.ab_replica.specs.declared.crossing.Crossing.{Crossing}

-- a history of which so many entries are trimmed may begin instance i of the cluster
abbrev pub may_begin : Cluster → ℕ → ℕ → Bool
may_begin c i n = (n == 0) || makes_checkpoints (kind_of c.plan i)

-- to the instance after j, by a certificate of j that brings this
abbrev pub led_by : Cluster → ℕ → List Signed → Option Based → Option Crossing
led_by c j cert None = None
led_by c j cert (Some b) =
    if may_begin c (j + 1) b.trimmed then Some (record { instance = j + 1; entry = trimmed_entry b.base b.trimmed cert; start = offered_start c j cert }) else None

-- the same from instance at
abbrev pub crossing_with : Cluster → ℕ → ℕ → List Signed → Option Based → Option Crossing
crossing_with c at j cert o = if nat_le at j && nat_lt j last_instance then led_by c j cert o else None

-- of a replica that knows a log by itself, of which the first k entries are trimmed
abbrev pub crossing_by : Cluster → ℕ → ℕ → List Request → List Signed → Option Crossing
crossing_by c at k own cert = crossing_with c at (cert_instance cert) cert (offered_by c k own (cert_instance cert) cert)

-- by the certificate that a message brings, if it brings one
abbrev pub crossing_in : Cluster → ℕ → ℕ → List Request → Option (List Signed) → Option Crossing
crossing_in c at k own None = None
crossing_in c at k own (Some cert) = crossing_by c at k own cert
