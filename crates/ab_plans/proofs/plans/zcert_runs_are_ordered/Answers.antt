use Rattle.ab_plans.proofs.Ordered.{zcert_served}
use Rattle.ab_plans.proofs.plans.zcert_runs_are_ordered.Goals as goal

pub returns : goal.returns
returns g c =
    let law = c.runs_with_backups_are_ordered.ensures in
    record {
      ordered = λ orders k events obeys is formed premises. law.ordered orders k events obeys (zcert_served k.cluster is) formed premises;
      instances = λ orders k events obeys is formed premises. law.instances orders k events obeys (zcert_served k.cluster is) formed premises;
    }
