use Rattle.std.proofs.Common.{◌≡◌, drop}
use Rattle.std.specs.Prelude.{max}
use Rattle.ab_storm.specs.Summaries.{highest}
use Rattle.ab_storm.proofs.summary.top.Given as goal

abbrev pub invariant-loop-r : goal.invariant-loop-r
invariant-loop-r g l = max l.top (highest (drop l.r l.world.cast.replicas)) ≡ highest l.world.cast.replicas
