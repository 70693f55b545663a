use Rattle.std.proofs.Common.{IsTrue, sym, subst}
use Rattle.ab_num.specs.declared.plan.Plan.{Plan}
use Rattle.ab_num.specs.Places.{kind_of}
use Rattle.ab_abs.specs.Promises.{ServesAll}
use Rattle.ab_party.specs.Parties.{IsReplicaOf}
use Rattle.ab_party.specs.Clusters.{IsSized}
use Rattle.ab_node.specs.Replicas.{ReplicaMember}
use Rattle.ab_node.proofs.MemberLemmas.{first_replica_is, replica_made}
use Rattle.ab_node.proofs.replica_member.ReplicaMember.new.Goals as goal

pub invariant_of-result : goal.invariant_of-result
invariant_of-result g c =
    let proto = g.P.Protocol.proto in
    let serves = g.P.Protocol.serves in
    let form = g.met.P.Protocol.formed in
    let k = c.args.keys.now in
    let cl = c.cluster.result.now in
    let of : IsSized cl k.f k.clients k.plan k.every = record { f = c.cluster.ensures.f; clients = c.cluster.ensures.clients; plan = c.cluster.ensures.plan; every = c.cluster.ensures.every } in
    let served : ServesAll serves cl = λ i one. subst (λ (p : Plan). IsTrue (serves (kind_of p i))) (sym of.plan) (c.requires.served i one) in
    subst (λ (m : ReplicaMember g.row.P.Denot). IsReplicaOf proto serves m.credentials m.site)
    (sym (replica_made proto serves form k cl c.args.me c.leaves-signatures.result c.in_ok-replica.replica c.in_ok-own.own c.in_ok-own.ensures c.leaves-signatures.ensures c.in_ok-replica.ensures.site))
    (first_replica_is proto serves form k cl c.args.me of c.requires.whole c.requires.own c.requires.party served)

pub returns : goal.returns
returns g c = record {
  cluster = c.cluster.result.now;
  of_keys = record { f = c.cluster.ensures.f; clients = c.cluster.ensures.clients; plan = c.cluster.ensures.plan; every = c.cluster.ensures.every };
  is = replica_made g.P.Protocol.proto g.P.Protocol.serves g.met.P.Protocol.formed c.args.keys.now c.cluster.result.now c.args.me c.leaves-signatures.result c.in_ok-replica.replica c.in_ok-own.own
      c.in_ok-own.ensures c.leaves-signatures.ensures c.in_ok-replica.ensures.site;
}
