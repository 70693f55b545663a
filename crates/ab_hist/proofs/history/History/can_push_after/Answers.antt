use Rattle.std.proofs.lemmas.Bool.Decides.{same_from_decides}
use Rattle.ab_hist.specs.Known.{can_push_after}
use Rattle.ab_hist.proofs.KnownLemmas.{can_push_after-Decides}
use Rattle.ab_hist.proofs.history.History.can_push_after.Goals as goal

pub returns-clause-test : goal.returns-clause-test
returns-clause-test c =
    same_from_decides c.may_push_after.result (can_push_after c.args.n c.args.self.now c.args.m.now) c.may_push_after.ensures (can_push_after-Decides c.args.n c.args.self.now c.args.m.now)
