use Rattle.std.proofs.Common.{◌≡◌, ◌++◌, map}
use Rattle.std.specs.List.{range_with_len}
use Rattle.ab_picture.specs.Lanes.{twin_lane}
use Rattle.ab_picture.proofs.lanes.add_twins.Given as goal

abbrev pub invariant-loop-earlier : goal.invariant-loop-earlier
invariant-loop-earlier l = l.lanes.items ≡ l.fn.lanes.items ++ map (twin_lane l.party) (range_with_len 1 l.earlier)
