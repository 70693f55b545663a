-- What a spawner in memory tells.
use Rattle.std.specs.Prelude.{ℕ, Some}
use Rattle.ab_io.specs.Told.{CallPlan}
use Rattle.ab_cluster.specs.declared.memory.Started.{Started}
use Rattle.ab_cluster.specs.Children.{Child, Children, SpawnerState}
use Rattle.ab_cluster.specs.Gathering.{job_of}

-- its children, how often it has failed, and its calls of each kind
pub record ToldSpawner : Type 0 where
  pub children : Children
  pub faults : ℕ
  pub starts : CallPlan
  pub waits : CallPlan

-- what that tells of a spawner
abbrev pub spawner_of : ToldSpawner → SpawnerState
spawner_of s = record { told = Some s.children; faults = s.faults }

abbrev pub child_of : Started → Child
child_of s = record { job = job_of s.job; waited = s.waited }
