use Rattle.std.proofs.Common.{subst}
use Rattle.ab_cast.specs.Casts.{IsCast}
use Rattle.ab_cast.proofs.StandLemmas.{is_there}
use Rattle.ab_cast.proofs.CastLemmas.{core_there}
use Rattle.ab_cast.proofs.cast.places_have_cores.Goals as goal

pub returns-clause-cores : goal.returns-clause-cores
returns-clause-cores g c p twin at is =
    let x = c.args.cast.now in
    core_there g.P.Protocol.proto g.P.Protocol.serves x (subst (IsCast g.P.Protocol.proto g.P.Protocol.serves) c.cast.view_is c.cast.invariant) at (is_there x.setup p twin at is)
