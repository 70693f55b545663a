use Rattle.ab_lock.proofs.Settling.{settled_follows, settled_ends}
use Rattle.ab_lock.proofs.laws.replicas_settle.Goals as goal

pub returns : goal.returns
returns g c = record {
  follows = λ digest same goes k f me n trace votes commits lawful. settled_follows digest same goes k f me n trace votes commits lawful;
  ends = λ digest same goes k f me trace votes commits lawful. settled_ends digest same goes k f me trace votes commits lawful;
}
