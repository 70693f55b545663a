use Rattle.std.proofs.Common.{◌≡◌, take}
use Rattle.ab_world.specs.Left.{last_left}
use Rattle.ab_world.proofs.left.last_left.Given as goal

abbrev pub invariant-logs : goal.invariant-logs
invariant-logs l = last_left l.left l.i l.r ≡ last_left (take l.n l.left) l.i l.r
