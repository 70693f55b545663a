use Rattle.std.proofs.Common.{[], sym}
use Rattle.ab_loop.specs.Nodes.{command_step}
use Rattle.ab_loop.proofs.CrashLemmas.{crash_rests}
use Rattle.ab_loop.proofs.FollowsLemmas.{follows_is, follows_still}
use Rattle.ab_loop.proofs.node.Node.ask.Goals as goal

pub returns-in-None-clause-follows : goal.returns-in-None-clause-follows
unfolding command_step
returns-in-None-clause-follows g c = follows_is _ _ _ _ _ _ _ (rw (sym c.in-None.ensures)) (follows_still _ _ _
    (crash_rests g.D.Disk.model g.J.Keeper.list_of (g.J.Keeper.kept c.args.keeper.now c.args.disk.now) c.args.disk.now [] (λ x. g.met.D.Disk.only_now c.args.disk.now x)
    (λ x may. g.met.J.Keeper.kept_is_left c.args.keeper.now c.args.disk.now x c.requires.ready may)))
