use Rattle.std.proofs.Common.{sym, subst}
use Rattle.ab_world.specs.Told.{IsLogIn}
use Rattle.ab_world.proofs.LogInLemmas.{log_told}
use Rattle.ab_world.proofs.world.World.log_of.Goals as goal

pub returns-clause-run : goal.returns-clause-run
returns-clause-run g c = λ x es out.
    let proto = g.P.Protocol.proto in
    subst (IsLogIn proto x es c.args.i c.args.r) (sym c.log_in.ensures)
    (log_told proto g.P.Protocol.serves x g.met.P.Protocol.formed es c.args.self.now out c.args.i c.args.r)
