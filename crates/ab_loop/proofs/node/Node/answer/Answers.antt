use Rattle.std.proofs.Common.{[]}
use Rattle.ab_loop.proofs.CrashLemmas.{crash_rests}
use Rattle.ab_loop.proofs.FollowsLemmas.{follows_stays, follows_is}
use Rattle.ab_loop.proofs.TurnLemmas.{reply_step_none, replies, reply_fails}
use Rattle.ab_loop.proofs.node.Node.answer.Goals as goal

pub returns-in-Ok-clause-follows : goal.returns-in-Ok-clause-follows
returns-in-Ok-clause-follows g c =
    replies g.D.Disk.model g.J.Keeper.list_of _ _ _ c.args.disk.now c.ask.new.disk c.args.self.now _ _ c.in-Some.commit _ _ _ _ _ c.ask.result
    (crash_rests g.D.Disk.model g.J.Keeper.list_of (g.J.Keeper.kept c.args.keeper.now c.args.disk.now) c.args.disk.now [] (λ x. g.met.D.Disk.only_now c.args.disk.now x)
    (λ x may. g.met.J.Keeper.kept_is_left c.args.keeper.now c.args.disk.now x c.requires.ready may))
    c.in-Some.ensures.0 c.in-Some.ensures.1 c.in-Ok.ensures.says c.in-Ok.ensures.counted c.ask.ensures.follows

pub returns-in-Err-clause-follows : goal.returns-in-Err-clause-follows
returns-in-Err-clause-follows g c =
    reply_fails g.D.Disk.model g.J.Keeper.list_of _ _ _ c.args.disk.now c.args.disk.now c.args.self.now _ c.in-Some.commit _ _ _ _ c.in-Err.fault
    (crash_rests g.D.Disk.model g.J.Keeper.list_of (g.J.Keeper.kept c.args.keeper.now c.args.disk.now) c.args.disk.now [] (λ x. g.met.D.Disk.only_now c.args.disk.now x)
    (λ x may. g.met.J.Keeper.kept_is_left c.args.keeper.now c.args.disk.now x c.requires.ready may))
    c.in-Some.ensures.0 c.in-Err.ensures.says c.in-Err.ensures.counted.0 c.in-Err.ensures.counted.1

pub returns-in-None-clause-follows : goal.returns-in-None-clause-follows
returns-in-None-clause-follows g c = follows_is _ _ _ _ _ _ _ (reply_step_none _ _ _ _ c.in-None.ensures.0) (follows_stays _ _ _ _
    (crash_rests g.D.Disk.model g.J.Keeper.list_of (g.J.Keeper.kept c.args.keeper.now c.args.disk.now) c.args.disk.now [] (λ x. g.met.D.Disk.only_now c.args.disk.now x)
    (λ x may. g.met.J.Keeper.kept_is_left c.args.keeper.now c.args.disk.now x c.requires.ready may)) c.in-None.ensures.1)
