use Rattle.std.proofs.Common.{◌≡◌, ◌++◌, length, map, drop}
use Rattle.std.specs.List.{enumerate_from}
use Rattle.ab_picture.specs.Pictures.{moment_of, moments_of}
use Rattle.ab_picture.proofs.composing.moments.Given as goal

abbrev pub invariant-loop-i : goal.invariant-loop-i
invariant-loop-i l = record {
  gathered :
      l.moments.items ++ map (λ x. moment_of l.told.counts.now l.told.parcels.now x.0 x.1) (enumerate_from l.i (drop l.i l.events))
      ≡ moments_of l.events l.told.counts.now l.told.parcels.now;
  count : length l.moments.items ≡ l.i;
}
