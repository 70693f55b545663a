use Rattle.ab_promises.proofs.RunsOwn.{runs_own}
use Rattle.ab_promises.proofs.own.runs_call_their_own.Goals as goal

pub returns : goal.returns
returns g c = λ proto cluster faulty w reached i one. runs_own proto cluster faulty w reached i one
