use Rattle.std.proofs.Common.{◌≡◌, ◌++◌}
use Rattle.ab_wire.specs.Views.{tags}
use Rattle.ab_pbft.proofs.putting.own_tags.Given as goal

abbrev pub invariant-tags : goal.invariant-tags
invariant-tags l =
    (goal.iterator-tags).can_next l.entry-iterator × (goal.iterator-tags).is_finite l.entry-iterator × (l.all.items ++ tags l.entry-iterator ≡ tags l.fn.given)
