use Rattle.std.proofs.Common.{◌≡◌}
use Rattle.std.specs.Io.KnownBytes.{Keeps}
use Rattle.ab_standard.proofs.standard.StdSourceSource.take.Given as goal

-- nothing was read, and no fault was counted
abbrev pub invariant-loop : goal.invariant-loop
invariant-loop g l = record {
  kept : Keeps (g.R.Read.remaining l.initial.self-inside.inner) (g.R.Read.remaining l.self-inside.inner);
  same : l.self-inside.faults ≡ l.initial.self-inside.faults;
}
