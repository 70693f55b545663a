use Rattle.ab_promises.specs.AllKinds.{any_kind}
use Rattle.ab_run.specs.Runs.{run}
use Rattle.ab_promises.proofs.Audited.{states_once}
use Rattle.ab_promises.proofs.audits.runs_accuse_no_correct_replica.Goals as goal

pub returns : goal.returns
returns g c =
    let machine = g.S.Service.machine in
    let law = c.correct_replicas_state_once.ensures in
    record {
      once = λ orders k events r obeys formed lt good. states_once (run k (any_kind machine orders) events).made r (law.aborts orders k events r obeys formed lt good) (law.prepares orders k events r obeys formed lt good);
      accused = λ orders k events r keys inputs a obeys formed lt good finds is accused.
          c.correct_replicas_are_not_accused.ensures keys inputs (run k (any_kind machine orders) events).made r a finds
          (states_once (run k (any_kind machine orders) events).made r (law.aborts orders k events r obeys formed lt good) (law.prepares orders k events r obeys formed lt good)) is accused;
    }
