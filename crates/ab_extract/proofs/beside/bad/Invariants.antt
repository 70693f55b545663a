use Rattle.std.proofs.Common.{◌≡◌, drop}
use Rattle.ab_extract.specs.Certs.{first_bad}
use Rattle.ab_extract.proofs.beside.bad.Given as goal

abbrev pub invariant-loop-abort : goal.invariant-loop-abort
invariant-loop-abort l = first_bad l.kind l.f (drop l.abort-index l.aborts) ≡ first_bad l.kind l.f l.aborts
