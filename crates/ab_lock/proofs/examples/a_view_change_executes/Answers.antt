use Rattle.std.proofs.Common.{refl}
use Rattle.ab_lock.proofs.SmallWitness.{met}
use Rattle.ab_lock.proofs.examples.a_view_change_executes.Goals as goal

pub returns : goal.returns
returns c = record { premises = met; executed = refl }
