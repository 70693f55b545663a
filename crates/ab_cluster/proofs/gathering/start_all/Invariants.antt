use Rattle.std.proofs.Common.{◌≡◌, ◌≤◌, length, map, take}
use Rattle.std.specs.Prelude.{IfSome}
use Rattle.std.specs.List.{range_with_len}
use Rattle.std.specs.Option.{option_map}
use Rattle.std.specs.Vec.{vec_capacity}
use Rattle.ab_cluster.specs.Gathering.{job_of}
use Rattle.ab_cluster.specs.Steps.{with_opened}
use Rattle.ab_cluster.proofs.gathering.start_all.Given as goal

abbrev pub invariant-loop-job : goal.invariant-loop-job
invariant-loop-job g l = record {
  count : length l.children.items ≡ l.job-index;
  room : length l.jobs ≤ vec_capacity l.children;
  told : (g.W.Spawner.state l.w).told ≡ option_map (with_opened (map job_of (take l.job-index l.jobs))) (g.W.Spawner.state l.initial.w).told;
  numbers : IfSome (g.W.Spawner.state l.initial.w).told (λ c. l.children.items ≡ range_with_len (length c.started) l.job-index);
  later : (g.W.Spawner.state l.initial.w).faults ≤ (g.W.Spawner.state l.w).faults;
}
