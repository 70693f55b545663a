use Rattle.ab_promises.proofs.SmallLocks.{locks_met, two_committed}
use Rattle.ab_promises.proofs.examples.two_replicas_lock.Goals as goal

pub returns : goal.returns
returns c = record { premises = locks_met; committed = two_committed }
