use Rattle.ab_promises.proofs.ChosenOwn.{run_signs_once, run_locks}
use Rattle.ab_promises.proofs.locks.runs_lock_views.Goals as goal

pub returns : goal.returns
returns g c =
    let machine = g.S.Service.machine in
    record {
      signs = λ proto serves orders cluster faulty w obeys not_served reached met i one is. run_signs_once machine proto serves orders obeys not_served cluster faulty w reached met i one is;
      locks = λ proto serves orders cluster faulty w obeys not_served reached met i one is. run_locks machine proto serves orders obeys not_served cluster faulty w reached met i one is;
    }
