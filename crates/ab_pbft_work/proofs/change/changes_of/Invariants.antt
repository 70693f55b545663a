use Rattle.std.proofs.Common.{◌≡◌}
use Rattle.ab_wire.specs.Views.{proofs}
use Rattle.ab_order.specs.Readings.{changes_of}
use Rattle.ab_pbft_work.proofs.Gathering.{before}
use Rattle.ab_pbft_work.proofs.change.changes_of.Given as goal

abbrev pub invariant-proofs : goal.invariant-proofs
invariant-proofs l =
    (goal.iterator-proofs).can_next l.proof-iterator × (goal.iterator-proofs).is_finite l.proof-iterator
    × (before l.changes.items (changes_of l.c.f l.i (proofs l.proof-iterator)) ≡ changes_of l.c.f l.i (proofs l.fn.proofs))
