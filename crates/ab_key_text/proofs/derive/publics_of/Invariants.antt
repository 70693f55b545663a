use Rattle.std.proofs.Common.{◌≡◌, map}
use Rattle.std.specs.List.{range_with_len}
use Rattle.ab_key_text.specs.Derived.{public_of}
use Rattle.ab_key_text.proofs.derive.publics_of.Given as goal

abbrev pub invariant-loop-r : goal.invariant-loop-r
invariant-loop-r l = l.publics.items ≡ map (public_of l.lms l.seed) (range_with_len 0 l.r)
