use Rattle.std.proofs.Common.{◌≡◌, ◌≤◌, ◌+◌, ◌-◌, ◌^◌, min, false, length, map, take}
use Rattle.std.specs.Prelude.{IfSome, is_none}
use Rattle.std.specs.List.{count_by}
use Rattle.std.specs.Vec.{vec_capacity}
use Rattle.ab_cluster.specs.Gathering.{found, outcome_of}
use Rattle.ab_cluster.specs.Steps.{AreEndsOf, ClosesFront, ends_in}
use Rattle.ab_cluster.proofs.gathering.wait_all.Given as goal

abbrev pub invariant-loop-child : goal.invariant-loop-child
invariant-loop-child g l = record {
  count : length l.all.items ≡ l.child-index;
  room : vec_capacity l.initial.all ≤ vec_capacity l.all;
  told : ClosesFront l.child-index (g.W.Spawner.state l.initial.w).told (g.W.Spawner.state l.w).told l.children;
  outcomes : map outcome_of l.all.items ≡ map found (ends_in l.all.items);
  right : IfSome (g.W.Spawner.state l.initial.w).told (λ c. AreEndsOf c.ends (take l.child-index l.children) (ends_in l.all.items));
  later : (g.W.Spawner.state l.initial.w).faults ≤ (g.W.Spawner.state l.w).faults;
  faults : l.short ≡ false → min ((g.W.Spawner.state l.initial.w).faults + count_by is_none (ends_in l.all.items)) (2 ^ 64 - 1) ≤ (g.W.Spawner.state l.w).faults;
}
