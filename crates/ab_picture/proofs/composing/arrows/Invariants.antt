use Rattle.std.proofs.Common.{◌≡◌, ◌+◌, ◌++◌, drop}
use Rattle.std.specs.List.{enumerate_from, filter_map}
use Rattle.ab_picture.specs.Pictures.{arrow_of, arrows_of}
use Rattle.ab_picture.proofs.composing.arrows.Given as goal

abbrev pub invariant-loop-i : goal.invariant-loop-i
invariant-loop-i l =
    l.arrows.items ++ filter_map (λ x. arrow_of l.told.counts.now l.told.parcels.now x.0 x.1) (enumerate_from (l.i + 1) (drop l.i l.events))
    ≡ arrows_of l.events l.told.counts.now l.told.parcels.now
