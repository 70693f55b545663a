use Rattle.std.proofs.Common.{ap, arith, map, rules}
use Rattle.std.specs.Prelude.{length, ◌≡◌, ◌⊎◌, ◌≤◌, ◌+◌, ◌-◌, ◌^◌, min, is_none}
use Rattle.std.specs.List.{count_by}
use Rattle.ab_io.specs.Causes.{Rose}
use Rattle.ab_cluster.specs.Gathering.{outcome_of}
use Rattle.ab_cluster.specs.Steps.{ends_in}
use Rattle.ab_cluster.proofs.ChildLemmas.{Begun, count_all, gathers, gathers_front, these_are_open}
use Rattle.ab_cluster.proofs.gathering.gather.Goals as goal

pub wait_all-waits-requires-clause-these : goal.wait_all-waits-requires-clause-these
wait_all-waits-requires-clause-these g c =
    let old = g.W.Spawner.state c.args.w.now in
    let mid = g.W.Spawner.state c.start_all-starts.new.w in
    let children = c.start_all-starts.new.children.items in
    let starts = c.start_all-starts.ensures in
    let begun : Begun c.args.jobs.now old mid children = record { front = starts.front; told = starts.told; numbers = starts.numbers; later = starts.later } in
    these_are_open c.args.jobs.now old mid mid children begun c.as_slice.result.now c.as_slice.ensures.value

pub returns-clause-ok : goal.returns-clause-ok
returns-clause-ok g c =
    let old = g.W.Spawner.state c.args.w.now in
    let mid = g.W.Spawner.state c.start_all-starts.new.w in
    let new = g.W.Spawner.state c.wait_all-waits.new.w in
    let children = c.start_all-starts.new.children.items in
    let starts = c.start_all-starts.ensures in
    let waits = c.wait_all-waits.ensures in
    let some = c.wait_all-waits.new.all.items in
    let begun : Begun c.args.jobs.now old mid children = record { front = starts.front; told = starts.told; numbers = starts.numbers; later = starts.later } in
    let whole : (length children ≡ length c.args.jobs.now) ⊎ Rose old.faults mid.faults = search rules in
    let faults : min (mid.faults + count_by is_none (ends_in some)) (2 ^ 64 - 1) ≤ new.faults = search rules in
    gathers c.args.jobs.now old mid new children begun c.as_slice.result.now some (map outcome_of c.add_rest.new.all.items) c.as_slice.ensures.value waits.later whole waits.told waits.count waits.right faults waits.all c.add_rest.ensures

pub returns-clause-count : goal.returns-clause-count
returns-clause-count g c =
    let some = c.wait_all-waits.new.all.items in
    let given : length c.as_slice.result.now ≡ length c.start_all-starts.new.children.items = ap length c.as_slice.ensures.value in
    count_all some c.add_rest.new.all.items (length c.args.jobs.now) (omega (arith, c.wait_all-waits.ensures.count, given, c.start_all-starts.ensures.front)) c.add_rest.ensures

pub returns-in_default-clause-err : goal.returns-in_default-clause-err
returns-in_default-clause-err g c =
    let old = g.W.Spawner.state c.args.w.now in
    let mid = g.W.Spawner.state c.start_all-starts.new.w in
    let new = g.W.Spawner.state c.wait_all-waits.new.w in
    let children = c.start_all-starts.new.children.items in
    let starts = c.start_all-starts.ensures in
    let waits = c.wait_all-waits.ensures in
    let begun : Begun c.args.jobs.now old mid children = record { front = starts.front; told = starts.told; numbers = starts.numbers; later = starts.later } in
    gathers_front c.args.jobs.now old mid new children begun c.as_slice.result.now c.as_slice.ensures.value waits.told waits.later

pub returns-in_default-waits-clause-err : goal.returns-in_default-waits-clause-err
returns-in_default-waits-clause-err g c =
    let old = g.W.Spawner.state c.args.w.now in
    let mid = g.W.Spawner.state c.start_all-starts.new.w in
    let new = g.W.Spawner.state c.wait_all-waits.new.w in
    let children = c.start_all-starts.new.children.items in
    let starts = c.start_all-starts.ensures in
    let waits = c.wait_all-waits.ensures in
    let begun : Begun c.args.jobs.now old mid children = record { front = starts.front; told = starts.told; numbers = starts.numbers; later = starts.later } in
    gathers_front c.args.jobs.now old mid new children begun c.as_slice.result.now c.as_slice.ensures.value waits.told waits.later
