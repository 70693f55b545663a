-- What a spawner over the system tells.
use Rattle.std.specs.Prelude.{ℕ, None}
use Rattle.ab_cluster.specs.Children.{SpawnerState}

-- nothing of its children, and how often it has failed
abbrev pub untold : ℕ → SpawnerState
untold faults = record { told = None; faults = faults }
