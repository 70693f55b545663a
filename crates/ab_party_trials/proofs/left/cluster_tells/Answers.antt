use Rattle.std.proofs.Common.{sym, subst, IsTrue, refl}
use Rattle.ab_num.specs.Places.{kind_of}
use Rattle.ab_num.specs.declared.plan.Plan.{Plan}
use Rattle.ab_abs.specs.Promises.{ServesAll}
use Rattle.ab_cast.specs.Setups.{Setup}
use Rattle.ab_quorum.specs.Rules.{is_quorum}
use Rattle.ab_party_trials.proofs.left.cluster_tells.Goals as goal

pub switches_and_tells-requires : goal.switches_and_tells-requires
switches_and_tells-requires c =
    subst (λ (x : Setup). ServesAll is_quorum x.cluster) (sym c.in-Ok.ensures)
    (λ i some. subst (λ (p : Plan). IsTrue (is_quorum (kind_of p i))) (sym c.requires) refl)
