use Rattle.std.proofs.Common.{ap, arith}
use Rattle.ab_cast.proofs.CastLemmas.{IsCast-next}
use Rattle.ab_cast.proofs.cast.Cast.pass.Goals as goal

pub invariant_of-self : goal.invariant_of-self
invariant_of-self g c =
    let i = c.self.inside in
    IsCast-next g.P.Protocol.proto g.P.Protocol.serves (record { setup = i.setup; replicas = i.replicas.items; clients = i.clients.items; replica_twins = i.replica_twins.items; client_twins = i.client_twins.items; events = i.events }) c.self.invariant
    (omega (arith, c.requires, ap (λ x. x.events) c.self.view_is))
