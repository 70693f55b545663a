use Rattle.std.proofs.Common.{◌≡◌}
use Rattle.ab_wire.specs.Views.{aborts}
use Rattle.ab_extract.specs.Certs.{first_bad}
use Rattle.ab_extract.proofs.fitting.bad_view.Given as goal

abbrev pub invariant-aborts : goal.invariant-aborts
invariant-aborts l =
    (goal.iterator-aborts).can_next l.abort-iterator × (goal.iterator-aborts).is_finite l.abort-iterator
    × (first_bad l.kind l.f (aborts l.abort-iterator) ≡ first_bad l.kind l.f (aborts l.cert))
