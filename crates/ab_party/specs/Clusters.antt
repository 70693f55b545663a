-- The size of a cluster.
use Rattle.std.specs.Prelude.{◌≡◌, ℕ}
use Rattle.ab_num.specs.declared.cluster.Cluster.{Cluster}
use Rattle.ab_num.specs.declared.plan.Plan.{Plan}

-- a cluster of this f, these clients, this plan, in which a checkpoint is due after so many requests
pub record IsSized (c : Cluster) (faulty number : ℕ) (order : Plan) (requests : ℕ) : Type 0 where
  pub f : c.f ≡ faulty
  pub clients : c.clients ≡ number
  pub plan : c.plan ≡ order
  pub every : c.every ≡ requests
