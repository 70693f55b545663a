use Rattle.ab_wire.specs.Views.{aborts}
use Rattle.ab_extract.specs.Certs.{AreAborts}
use Rattle.ab_protocol_trials.proofs.views.are_aborts.Given as goal

abbrev pub invariant-aborts : goal.invariant-aborts
invariant-aborts l =
    (goal.iterator-aborts).can_next l.abort-iterator × (goal.iterator-aborts).is_finite l.abort-iterator
    × (AreAborts l.replicas (aborts l.abort-iterator) → AreAborts l.replicas (aborts l.cert))
