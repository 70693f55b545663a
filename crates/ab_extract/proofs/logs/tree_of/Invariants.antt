use Rattle.std.proofs.Common.{◌≡◌, ◌++◌, map}
use Rattle.ab_wire.specs.Views.{aborts}
use Rattle.ab_extract.specs.Certs.{log_in}
use Rattle.ab_extract.proofs.logs.tree_of.Given as goal

abbrev pub invariant-aborts : goal.invariant-aborts
invariant-aborts l =
    (goal.iterator-aborts).can_next l.abort-iterator × (goal.iterator-aborts).is_finite l.abort-iterator
    × (l.tree ++ map (λ s. log_in s.content) (aborts l.abort-iterator) ≡ map (λ s. log_in s.content) (aborts l.cert))
