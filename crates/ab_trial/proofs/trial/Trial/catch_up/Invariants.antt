use Rattle.std.proofs.Common.{◌-◌, length}
use Rattle.ab_trial.specs.Trials.{HasServed}
use Rattle.ab_trial.proofs.trial.Trial.catch_up.Given as goal

abbrev pub invariant-serving : goal.invariant-serving
invariant-serving g l = HasServed g.S.Service.machine l.log l.self.served l.self.state

abbrev pub decreases-serving : goal.decreases-serving
decreases-serving g l = length l.log - l.self.served
