use Rattle.std.proofs.Common.{◌≡◌, drop}
use Rattle.ab_extract.specs.Heads.{foreign_in}
use Rattle.ab_extract.proofs.heads.foreign.Given as goal

abbrev pub invariant-loop-s : goal.invariant-loop-s
invariant-loop-s l = foreign_in l.i (drop l.s-index l.heads) ≡ foreign_in l.i l.heads
