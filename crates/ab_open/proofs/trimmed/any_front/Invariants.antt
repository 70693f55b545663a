use Rattle.std.proofs.Common.{◌≡◌}
use Rattle.std.specs.List.{list_any}
use Rattle.ab_form.specs.Readers.{listed}
use Rattle.ab_wire.specs.Changes.{proof_at}
use Rattle.ab_open.specs.Trimmed.{has_front}
use Rattle.ab_open.proofs.trimmed.any_front.Given as goal

abbrev pub invariant-changes : goal.invariant-changes
invariant-changes l =
    (goal.iterator-changes).can_next l.change-iterator × (goal.iterator-changes).is_finite l.change-iterator
    × (list_any has_front (listed proof_at l.change-iterator.count l.change-iterator.bytes.now) ≡ list_any has_front (listed proof_at l.fn.changes.count l.fn.changes.bytes.now))
