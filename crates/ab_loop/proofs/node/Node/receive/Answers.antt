use Rattle.std.proofs.Common.{[]}
use Rattle.ab_loop.proofs.CrashLemmas.{crash_rests}
use Rattle.ab_loop.proofs.FollowsLemmas.{follows_stays, follows_wanting, follows_is}
use Rattle.ab_loop.proofs.TurnLemmas.{datagram_step_is}
use Rattle.ab_loop.proofs.node.Node.receive.Goals as goal

pub returns-in-Ok-More-clause-follows : goal.returns-in-Ok-More-clause-follows
returns-in-Ok-More-clause-follows g c =
    follows_is _ _ _ _ _ _ _ (datagram_step_is _ _ _ c.args.self.now c.args.datagram.now _ (rw c.in-Ok-More.field-0-is at c.in-Ok-More.ensures.answer))
    (follows_stays _ _ _ _
    (crash_rests g.D.Disk.model g.J.Keeper.list_of (g.J.Keeper.kept c.args.keeper.now c.args.disk.now) c.args.disk.now [] (λ x. g.met.D.Disk.only_now c.args.disk.now x)
    (λ x may. g.met.J.Keeper.kept_is_left c.args.keeper.now c.args.disk.now x c.requires.ready may)) c.in-Ok-More.ensures.node)

pub returns-in-Ok-Dropped-clause-follows : goal.returns-in-Ok-Dropped-clause-follows
returns-in-Ok-Dropped-clause-follows g c =
    follows_is _ _ _ _ _ _ _ (datagram_step_is _ _ _ c.args.self.now c.args.datagram.now _ (rw c.in-Ok-Dropped.field-0-is at c.in-Ok-Dropped.ensures.answer))
    (follows_stays _ _ _ _
    (crash_rests g.D.Disk.model g.J.Keeper.list_of (g.J.Keeper.kept c.args.keeper.now c.args.disk.now) c.args.disk.now [] (λ x. g.met.D.Disk.only_now c.args.disk.now x)
    (λ x may. g.met.J.Keeper.kept_is_left c.args.keeper.now c.args.disk.now x c.requires.ready may)) c.in-Ok-Dropped.ensures.node)

pub returns-in-Err-clause-follows : goal.returns-in-Err-clause-follows
returns-in-Err-clause-follows g c = follows_wanting _ _ _ _
    (crash_rests g.D.Disk.model g.J.Keeper.list_of (g.J.Keeper.kept c.args.keeper.now c.args.disk.now) c.args.disk.now _ (λ x. g.met.D.Disk.only_now c.args.disk.now x)
    (λ x may. g.met.J.Keeper.kept_is_left c.args.keeper.now c.args.disk.now x c.requires.ready may))
