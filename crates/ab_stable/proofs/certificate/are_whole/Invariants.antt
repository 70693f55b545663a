use Rattle.std.proofs.Common.{◌≡◌}
use Rattle.ab_wire.specs.Views.{aborts}
use Rattle.ab_stable.specs.Offers.{are_whole}
use Rattle.ab_stable.proofs.certificate.are_whole.Given as goal

abbrev pub invariant-aborts : goal.invariant-aborts
invariant-aborts l =
    (goal.iterator-aborts).can_next l.abort-iterator × (goal.iterator-aborts).is_finite l.abort-iterator
    × (are_whole (aborts l.abort-iterator) ≡ are_whole (aborts l.cert))
