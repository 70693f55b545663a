use Rattle.ab_wire.specs.Views.{message}
use Rattle.ab_abs.specs.Messages.{took}
use Rattle.ab_replica.proofs.WithinLemmas.{within_after}
use Rattle.ab_replica.proofs.replica.Replica.call.Goals as goal

pub invariant_of-self : goal.invariant_of-self
invariant_of-self g c =
    let within = within_after g.P.Protocol.proto g.P.Protocol.serves g.met.P.Protocol.formed (g.N.Notary.pen c.args.n.now) c.self.inside.value c.on.new.self (took (message c.args.m)) c.in-Ok.ensures.ok.0 c.self.invariant.3 in
    (c.self.invariant.0, c.self.invariant.1, c.self.invariant.2, within)
