use Rattle.std.proofs.Common.{◌≡◌}
use Rattle.std.specs.Prelude.{nat_lt}
use Rattle.std.specs.List.{list_all}
use Rattle.ab_wire.specs.Views.{aborts}
use Rattle.ab_extract.proofs.view.are_members.Given as goal

abbrev pub invariant-aborts : goal.invariant-aborts
invariant-aborts l =
    (goal.iterator-aborts).can_next l.abort-iterator × (goal.iterator-aborts).is_finite l.abort-iterator
    × (list_all (λ s. nat_lt s.maker l.replicas) (aborts l.abort-iterator) ≡ list_all (λ s. nat_lt s.maker l.replicas) (aborts l.cert))
