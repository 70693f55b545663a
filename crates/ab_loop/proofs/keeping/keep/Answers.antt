use Rattle.ab_loop.proofs.CrashLemmas.{crash_rests}
use Rattle.ab_loop.proofs.keeping.keep.Goals as goal

pub returns-then-not-opened-clause-any_moment : goal.returns-then-not-opened-clause-any_moment
returns-then-not-opened-clause-any_moment g c = (crash_rests g.D.Disk.model g.J.Keeper.list_of (g.J.Keeper.kept c.args.keeper.now c.args.disk.now) c.args.disk.now _ (λ x. g.met.D.Disk.only_now c.args.disk.now x)
    (λ x may. g.met.J.Keeper.kept_is_left c.args.keeper.now c.args.disk.now x c.requires.ready may))

pub returns-in-Err-clause-any_moment : goal.returns-in-Err-clause-any_moment
returns-in-Err-clause-any_moment g c = (crash_rests g.D.Disk.model g.J.Keeper.list_of (g.J.Keeper.kept c.args.keeper.now c.args.disk.now) c.args.disk.now _ (λ x. g.met.D.Disk.only_now c.args.disk.now x)
    (λ x may. g.met.J.Keeper.kept_is_left c.args.keeper.now c.args.disk.now x c.requires.ready may))
