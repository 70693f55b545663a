use Rattle.std.proofs.Common.{◌≡◌, ◌+◌, ◌++◌, drop}
use Rattle.std.specs.List.{enumerate_from, filter_map}
use Rattle.ab_picture.specs.Pictures.{stub_of, stubs_of}
use Rattle.ab_picture.proofs.composing.stubs.Given as goal

abbrev pub invariant-loop-i : goal.invariant-loop-i
invariant-loop-i l =
    l.stubs.items ++ filter_map (λ x. stub_of l.told.events.now l.told.counts.now x.0 x.1) (enumerate_from (l.i + 1) (drop l.i l.parcels))
    ≡ stubs_of l.told.events.now l.told.counts.now l.parcels
