use Rattle.ab_storm.proofs.Keeping.{sets_own, sized_own}
use Rattle.ab_storm.proofs.running.storm.Goals as goal

pub storm_over-requires-clause-setup : goal.storm_over-requires-clause-setup
storm_over-requires-clause-setup g c = sets_own c.in_ok-setup.setup c.cluster.result.now c.in_ok-setup.ensures

pub storm_over-requires-clause-sized : goal.storm_over-requires-clause-sized
storm_over-requires-clause-sized g c =
    sized_own c.in_ok-setup.setup c.cluster.result.now c.args.asked.now c.in_ok-setup.ensures (record { f = c.cluster.ensures.f; clients = c.cluster.ensures.clients; plan = c.cluster.ensures.plan; every = c.cluster.ensures.every })
