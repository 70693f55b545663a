use Rattle.std.proofs.Common.{◌≡◌, ◌+◌, ◌*◌, ◌++◌, map}
use Rattle.std.specs.List.{range_with_len}
use Rattle.ab_num.specs.declared.party.Party.TheVariants.{Replica, Client}
use Rattle.ab_keys.specs.Rings.{peers_of}
use Rattle.ab_keys.proofs.ring.KeyRing.derive.Given as goal

abbrev pub invariant-replicas : goal.invariant-replicas
invariant-replicas l = l.peers.items ≡ peers_of l.seed l.me (map Replica (range_with_len 0 l.r))

abbrev pub invariant-clients : goal.invariant-clients
invariant-clients l = l.peers.items ≡ peers_of l.seed l.me (map Replica (range_with_len 0 (3 * l.c.f + 1)) ++ map Client (range_with_len 0 l.n))
