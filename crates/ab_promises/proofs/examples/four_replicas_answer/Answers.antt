use Rattle.std.proofs.Common.{refl, arith}
use Rattle.ab_abs.proofs.Witness.{witness}
use Rattle.ab_promises.proofs.SmallCalls.{small_own}
use Rattle.ab_promises.proofs.examples.four_replicas_answer.Goals as goal

pub returns : goal.returns
returns g c =
    let machine = g.S.Service.machine in
    record { own = λ m fits. small_own machine m fits; premises = λ m apart slots. (witness machine m apart slots).premises; commits = λ m. (1, omega arith, refl) }
