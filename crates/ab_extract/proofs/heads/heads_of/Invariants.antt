use Rattle.std.proofs.Common.{◌≡◌, ◌++◌, map}
use Rattle.ab_wire.specs.Views.{aborts}
use Rattle.ab_extract.specs.Heads.{head_of}
use Rattle.ab_extract.proofs.heads.heads_of.Given as goal

abbrev pub invariant-aborts : goal.invariant-aborts
invariant-aborts l =
    (goal.iterator-aborts).can_next l.abort-iterator × (goal.iterator-aborts).is_finite l.abort-iterator
    × (l.heads.items ++ map head_of (aborts l.abort-iterator) ≡ map head_of (aborts l.cert))
