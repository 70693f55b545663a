use Rattle.std.proofs.Common.{arith}
use Rattle.ab_storm.proofs.DrawLemmas.{idle_is}
use Rattle.ab_storm.proofs.running.idle_clients.Goals as goal

pub returns : goal.returns
returns g c = idle_is c.args.world.now c.idle.result (omega (arith, c.idle.type_inv)) c.idle.ensures
