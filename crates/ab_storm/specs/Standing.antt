-- What holds of a world and of the storm over it after each event.
use Rattle.std.specs.Prelude.{◌≡◌, ◌+◌, ◌*◌, All, IsTrue, None, length}
use Rattle.ab_keys.specs.Keys.{is_party}
use Rattle.ab_storm.specs.Storms.{Storm}
use Rattle.ab_world.specs.Worlds.{World}

-- a storm of the cluster goes over the world, which has each replica and each client, and has not ended, and whose packets go to parties
-- of the cluster
pub record Goes {P : Type 0} (s : Storm) (w : World P) : Type 0 where
  pub cluster : s.cluster ≡ w.cast.setup.cluster
  pub replicas : length w.cast.replicas ≡ 3 * w.cast.setup.cluster.f + 1
  pub clients : length w.cast.clients ≡ w.cast.setup.cluster.clients
  pub ended : w.ended ≡ None
  pub parties : All (λ p. IsTrue (is_party w.cast.setup.cluster.f w.cast.setup.cluster.clients p.to)) w.packets
