use Rattle.ab_promises.proofs.SmallBackups.{own, premises_met, both_prepare}
use Rattle.ab_promises.proofs.examples.two_replicas_prepare.Goals as goal

pub returns : goal.returns
returns g c =
    let machine = g.S.Service.machine in
    record {
      own = λ orders sig obeys is. own machine orders obeys sig is;
      premises = λ orders sig obeys. premises_met machine orders obeys sig;
      prepared = λ orders sig obeys. both_prepare machine orders obeys sig;
    }
