use Rattle.ab_promises.proofs.SmallStarts.{starts_own, starts_met}
use Rattle.ab_promises.proofs.examples.four_replicas_begin.Goals as goal

pub returns : goal.returns
returns g c =
    let p = g.P.Protocol in
    let form = g.met.P.Protocol.formed in
    record { own = λ plan. starts_own p.proto p.serves form plan; premises = λ plan. starts_met p.proto p.serves form plan }
