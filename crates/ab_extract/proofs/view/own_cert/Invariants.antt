use Rattle.std.proofs.Common.{◌≡◌, ◌++◌}
use Rattle.ab_wire.specs.Views.{aborts}
use Rattle.ab_extract.proofs.view.own_cert.Given as goal

abbrev pub invariant-aborts : goal.invariant-aborts
invariant-aborts l =
    (goal.iterator-aborts).can_next l.abort-iterator × (goal.iterator-aborts).is_finite l.abort-iterator × (l.all.items ++ aborts l.abort-iterator ≡ aborts l.cert)
