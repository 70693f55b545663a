use Rattle.std.proofs.Common.{◌≡◌, drop}
use Rattle.ab_storm.specs.Storms.{first_idle}
use Rattle.ab_storm.proofs.generator.lowest_idle.Given as goal

-- the lowest idle client is that of those left
abbrev pub invariant-loop-c : goal.invariant-loop-c
invariant-loop-c l = record { rest : first_idle 0 l.idle ≡ first_idle l.c (drop l.c l.idle) }
