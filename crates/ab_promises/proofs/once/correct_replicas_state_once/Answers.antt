use Rattle.ab_promises.proofs.AllKinds.{all_abort_once, all_prepare_once}
use Rattle.ab_promises.proofs.once.correct_replicas_state_once.Goals as goal

pub returns : goal.returns
returns g c =
    let machine = g.S.Service.machine in
    let short = g.met.S.Service.short in
    record {
      aborts = λ orders k events r obeys formed lt good. all_abort_once machine short orders obeys k events formed r lt good;
      prepares = λ orders k events r obeys formed lt good. all_prepare_once machine short orders obeys k events formed r lt good;
    }
