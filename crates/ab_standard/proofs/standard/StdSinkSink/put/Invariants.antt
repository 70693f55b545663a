use Rattle.std.proofs.Common.{◌≡◌}
use Rattle.std.specs.Io.KnownBytes.{Keeps}
use Rattle.ab_standard.proofs.standard.StdSinkSink.put.Given as goal

-- nothing was written, and no fault was counted
abbrev pub invariant-loop : goal.invariant-loop
invariant-loop g l = record {
  kept : Keeps (g.W.Write.contents l.initial.self-inside.inner) (g.W.Write.contents l.self-inside.inner);
  same : l.self-inside.faults ≡ l.initial.self-inside.faults;
}
