use Rattle.std.proofs.Common.{[], sym, ◌∙◌}
use Rattle.ab_loop.specs.Nodes.{timer_step}
use Rattle.ab_loop.proofs.CrashLemmas.{crash_rests}
use Rattle.ab_loop.proofs.FollowsLemmas.{follows_still, follows_is}
use Rattle.ab_loop.proofs.node.Node.time.Goals as goal

pub returns-else-has_expired-clause-follows : goal.returns-else-has_expired-clause-follows
unfolding timer_step
returns-else-has_expired-clause-follows g c = follows_is _ _ _ _ _ _ _ (rw (sym c.has_expired.ensures ∙ c.if-has_expired.false)) (follows_still _ _ _
    (crash_rests g.D.Disk.model g.J.Keeper.list_of (g.J.Keeper.kept c.args.keeper.now c.args.disk.now) c.args.disk.now [] (λ x. g.met.D.Disk.only_now c.args.disk.now x)
    (λ x may. g.met.J.Keeper.kept_is_left c.args.keeper.now c.args.disk.now x c.requires.ready may)))
