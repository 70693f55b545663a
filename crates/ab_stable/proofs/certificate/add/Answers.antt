use Rattle.std.proofs.Common.{sym, subst}
use Rattle.ab_hist.specs.Histories.{IsNext}
use Rattle.ab_trim.proofs.RestLemmas.{all_follow-Decides}
use Rattle.ab_stable.proofs.certificate.add.Goals as goal

pub returns-in-Ok-clause-test : goal.returns-in-Ok-clause-test
returns-in-Ok-clause-test c =
    sym ((all_follow-Decides c.args.m.now c.args.base.now).1 (subst (IsNext c.args.base.now) c.copy.ensures c.in-Ok.ensures.ok.0.1))
