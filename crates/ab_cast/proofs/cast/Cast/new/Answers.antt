use Rattle.ab_cast.proofs.CastLemmas.{IsCast-new}
use Rattle.ab_cast.proofs.cast.Cast.new.Goals as goal

pub invariant_of-result : goal.invariant_of-result
invariant_of-result g c =
    IsCast-new g.P.Protocol.proto g.P.Protocol.serves g.met.P.Protocol.formed c.args.setup c.requires c.cluster.result.now c.cluster.ensures
    c.in_ok-replicas.replicas.items c.in_ok-clients.clients.items c.in_ok-replica_twins.replica_twins.items c.in_ok-client_twins.client_twins.items
    c.in_ok-replicas.ensures c.in_ok-clients.ensures c.in_ok-replica_twins.ensures c.in_ok-client_twins.ensures
