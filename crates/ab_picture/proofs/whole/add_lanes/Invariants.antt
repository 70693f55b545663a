use Rattle.std.proofs.Common.{take}
use Rattle.std.specs.List.{enumerate_from}
use Rattle.ab_picture.specs.Elements.{IsLane}
use Rattle.ab_picture.specs.Lists.{AddsAll}
use Rattle.ab_picture.proofs.whole.add_lanes.Given as goal

abbrev pub invariant-loop-i : goal.invariant-loop-i
invariant-loop-i l = AddsAll (IsLane l.picture) (enumerate_from 0 (take l.i l.lanes)) l.fn.out.items l.out.items
