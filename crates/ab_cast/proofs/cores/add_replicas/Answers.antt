use Rattle.ab_cast.specs.Casts.{first_site}
use Rattle.ab_cast.proofs.StepLemmas.{one_more}
use Rattle.ab_cast.proofs.cores.add_replicas.Goals as goal

pub loop-preserved : goal.loop-preserved
loop-preserved g c =
    one_more c.push.new.self.items c.loop.twins.items c.args.twins.now.items c.loop.counter c.in_ok-first_replica.field-0 (first_site c.args.setup.now g.P.Protocol.proto c.args.me)
    c.in_ok-push.ensures.items c.loop.invariant c.in_ok-first_replica.ensures
