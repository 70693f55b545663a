use Rattle.std.proofs.Common.{◌≡◌, drop}
use Rattle.ab_extract.specs.Heads.{lead_in}
use Rattle.ab_extract.proofs.heads.leading.Given as goal

abbrev pub invariant-heads : goal.invariant-heads
invariant-heads l = l.best ≡ lead_in l.at (drop l.at l.heads)
