use Rattle.ab_node.proofs.MemberLemmas.{client_made}
use Rattle.ab_node.proofs.client_member.ClientMember.new.Goals as goal

pub returns : goal.returns
returns c = record {
  cluster = c.cluster.result.now;
  of_keys = record { f = c.cluster.ensures.f; clients = c.cluster.ensures.clients; plan = c.cluster.ensures.plan; every = c.cluster.ensures.every };
  is = client_made c.args.keys.now c.cluster.result.now c.args.me c.new-client.result c.in_ok-own.own c.in_ok-own.ensures c.new-client.ensures;
}
