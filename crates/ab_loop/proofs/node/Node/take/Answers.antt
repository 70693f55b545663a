use Rattle.std.proofs.Common.{None, [], inr}
use Rattle.ab_loop.specs.Nodes.{datagram_step}
use Rattle.ab_loop.proofs.CrashLemmas.{crash_rests}
use Rattle.ab_loop.proofs.FollowsLemmas.{follows_quiet, follows_failed, quiet_next, next_of, next_is}
use Rattle.ab_loop.proofs.node.Node.take.Goals as goal

pub returns-in-Quiet-clause-takes : goal.returns-in-Quiet-clause-takes
unfolding datagram_step
returns-in-Quiet-clause-takes g c = record {
  got = None;
  next = quiet_next _ c.recv.new.buf c.in-Quiet.ensures.receives.gives;
  left = c.in-Quiet.ensures.receives.to_come;
  follows = follows_quiet _ _ _ _ _ _
      (crash_rests g.D.Disk.model g.J.Keeper.list_of (g.J.Keeper.kept c.args.keeper.now c.args.disk.now) c.args.disk.now [] (λ x. g.met.D.Disk.only_now c.args.disk.now x)
      (λ x may. g.met.J.Keeper.kept_is_left c.args.keeper.now c.args.disk.now x c.requires.ready may))
      c.in-Quiet.ensures.receives.sent c.in-Quiet.ensures.receives.later c.in-Quiet.ensures.receives.losses;
}

pub returns-in-Failed-clause-takes : goal.returns-in-Failed-clause-takes
returns-in-Failed-clause-takes g c = record {
  got = next_of (g.L.Link.state c.args.link.now).to_come;
  next = next_is (g.L.Link.state c.args.link.now).to_come;
  left = inr c.in-Failed.ensures.receives.to_come;
  follows = follows_failed _ _ _ _ _ _ _
      (crash_rests g.D.Disk.model g.J.Keeper.list_of (g.J.Keeper.kept c.args.keeper.now c.args.disk.now) c.args.disk.now _ (λ x. g.met.D.Disk.only_now c.args.disk.now x)
      (λ x may. g.met.J.Keeper.kept_is_left c.args.keeper.now c.args.disk.now x c.requires.ready may))
      c.in-Failed.ensures.receives.sent c.in-Failed.ensures.receives.later c.in-Failed.ensures.receives.failed c.in-Failed.ensures.receives.losses;
}
