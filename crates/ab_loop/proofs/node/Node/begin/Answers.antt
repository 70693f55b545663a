use Rattle.std.proofs.Common.{[], sym, ◌∙◌}
use Rattle.ab_loop.proofs.CrashLemmas.{crash_rests}
use Rattle.ab_loop.proofs.TurnLemmas.{begin_fails, begins, begins_waiting}
use Rattle.ab_loop.proofs.node.Node.begin.Goals as goal

pub returns-in-Ok-true-clause-follows : goal.returns-in-Ok-true-clause-follows
returns-in-Ok-true-clause-follows g c =
    begins_waiting g.D.Disk.model g.J.Keeper.list_of _ _ _ c.args.disk.now c.args.past.now c.args.self.now _ _ _ _ _
    (crash_rests g.D.Disk.model g.J.Keeper.list_of (g.J.Keeper.kept c.args.keeper.now c.args.disk.now) c.args.disk.now [] (λ x. g.met.D.Disk.only_now c.args.disk.now x)
    (λ x may. g.met.J.Keeper.kept_is_left c.args.keeper.now c.args.disk.now x c.requires.ready may)) (sym c.in-Ok-true.field-0-test ∙ c.in-Ok-true.ensures.waits) c.in-Ok-true.ensures.node c.in-Ok-true.ensures.tells.says c.in-Ok-true.ensures.tells.counted

pub returns-in-Ok-false-clause-follows : goal.returns-in-Ok-false-clause-follows
returns-in-Ok-false-clause-follows g c =
    begins g.D.Disk.model g.J.Keeper.list_of _ _ _ c.args.disk.now c.ask.new.disk c.args.past.now c.args.self.now _ _ _ _ _ _ _ c.ask.result
    (crash_rests g.D.Disk.model g.J.Keeper.list_of (g.J.Keeper.kept c.args.keeper.now c.args.disk.now) c.args.disk.now [] (λ x. g.met.D.Disk.only_now c.args.disk.now x)
    (λ x may. g.met.J.Keeper.kept_is_left c.args.keeper.now c.args.disk.now x c.requires.ready may)) (sym c.in-Ok-false.field-0-test ∙ c.in-Ok-false.ensures.waits) c.in-Ok-false.ensures.node c.in-Ok-false.ensures.tells.says c.in-Ok-false.ensures.tells.counted c.ask.ensures.follows

pub returns-in-Err-clause-follows : goal.returns-in-Err-clause-follows
returns-in-Err-clause-follows g c =
    begin_fails g.D.Disk.model g.J.Keeper.list_of _ _ _ c.args.disk.now c.args.disk.now c.args.past.now c.args.self.now _ _ _ _ _ c.in-Err.fault
    (crash_rests g.D.Disk.model g.J.Keeper.list_of (g.J.Keeper.kept c.args.keeper.now c.args.disk.now) c.args.disk.now [] (λ x. g.met.D.Disk.only_now c.args.disk.now x)
    (λ x may. g.met.J.Keeper.kept_is_left c.args.keeper.now c.args.disk.now x c.requires.ready may)) c.in-Err.ensures.tells.says c.in-Err.ensures.tells.counted.0 c.in-Err.ensures.tells.counted.1
