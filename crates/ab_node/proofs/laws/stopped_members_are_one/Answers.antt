use Rattle.std.proofs.Common.{List, subst}
use Rattle.ab_msg.specs.Packets.{Packet}
use Rattle.ab_loop.specs.Lives.{Among, handed_by, kept_by}
use Rattle.ab_loop.specs.Nodes.{datagrams_in, parcels_of}
use Rattle.ab_loop.proofs.LifeLemmas.{restarts_hand, restarts_tell}
use Rattle.ab_node.specs.Replicas.{replica_rules}
use Rattle.ab_node.specs.Clients.{client_rules}
use Rattle.ab_node.proofs.IdleLemmas.{clients_idle, replicas_idle}
use Rattle.ab_node.proofs.LocalLemmas.{replica_local}
use Rattle.ab_node.proofs.laws.stopped_members_are_one.Goals as goal

pub returns : goal.returns
returns g c = record {
  replica = λ proto counted s m runs life. restarts_hand (replica_rules proto counted) s m runs (replicas_idle proto counted m) life;
  run = λ k proto counted s m runs starts life. subst (λ (ms : List Packet). Among (handed_by runs) (datagrams_in (parcels_of s 0 ms))) (replica_local k proto counted m (kept_by runs) starts).bytes
      (restarts_hand (replica_rules proto counted) s m runs (replicas_idle proto counted m) life);
  client = λ s m runs life. restarts_hand client_rules s m runs (clients_idle m) life;
  replies = λ s m runs life. restarts_tell client_rules s m runs (clients_idle m) life;
}
