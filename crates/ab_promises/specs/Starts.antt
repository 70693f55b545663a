-- How replicas begin and stop.
use Rattle.std.specs.Prelude.{◌≡◌, ℕ, true, []}
use Rattle.ab_num.specs.declared.cluster.Cluster.{Cluster}
use Rattle.ab_abs.specs.declared.entry.Entry.{Entry}
use Rattle.ab_abs.specs.Ensembles.{Proto}

-- a replica begins with its base as its log, and a stop leaves it stopped, with the log that it has
pub record IsStoppable {P : Type 0} (proto : Proto P) : Type 0 where
  pub begins : (c : Cluster) (i r : ℕ) (e : Entry) → (proto.state (proto.begin c i r e)).log ≡ e.base
  pub stops : (p : P) → (proto.state (proto.halt p)).stopped ≡ true
  pub stays : (p : P) → (proto.state (proto.halt p)).log ≡ (proto.state p).log

-- a replica begins with an empty log, and a stop leaves it as it is
pub record IsUnstoppable {P : Type 0} (proto : Proto P) : Type 0 where
  pub begins : (c : Cluster) (i r : ℕ) (e : Entry) → (proto.state (proto.begin c i r e)).log ≡ []
  pub rests : (p : P) → proto.halt p ≡ p
