use Rattle.std.proofs.Common.{◌≡◌}
use Rattle.ab_process.proofs.spawner.ProcSpawner.read_all.Given as goal

abbrev pub invariant-loop-i : goal.invariant-loop-i
invariant-loop-i g l = l.self-inside.faults ≡ l.initial.self-inside.faults
