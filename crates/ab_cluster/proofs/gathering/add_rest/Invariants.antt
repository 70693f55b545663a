use Rattle.std.proofs.Common.{◌≡◌, ◌≤◌, ◌-◌, ◌++◌, length, map}
use Rattle.std.specs.Prelude.{replicate}
use Rattle.std.specs.Vec.{vec_capacity}
use Rattle.ab_cluster.specs.Gathering.{not_started, outcome_of}
use Rattle.ab_cluster.proofs.gathering.add_rest.Given as goal

abbrev pub invariant-loop : goal.invariant-loop
invariant-loop l = record {
  count : length l.all.items ≡ l.counter;
  before : length l.initial.all.items ≤ l.counter;
  room : l.count ≤ vec_capacity l.all;
  outcomes : map outcome_of l.all.items ≡ map outcome_of l.initial.all.items ++ replicate (l.counter - length l.initial.all.items) not_started;
}
