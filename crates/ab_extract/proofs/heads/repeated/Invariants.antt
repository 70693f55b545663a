use Rattle.std.proofs.Common.{◌≡◌, drop}
use Rattle.ab_extract.specs.Heads.{repeat_in}
use Rattle.ab_extract.proofs.heads.repeated.Given as goal

abbrev pub invariant-loop-k : goal.invariant-loop-k
invariant-loop-k l = repeat_in (drop l.k l.heads) ≡ repeat_in l.heads
