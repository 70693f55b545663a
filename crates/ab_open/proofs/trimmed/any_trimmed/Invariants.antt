use Rattle.std.proofs.Common.{◌≡◌}
use Rattle.ab_form.specs.Readers.{listed}
use Rattle.ab_wire.specs.Signed.{signed_abort_at}
use Rattle.ab_open.specs.Trimmed.{any_trimmed}
use Rattle.ab_open.proofs.trimmed.any_trimmed.Given as goal

abbrev pub invariant-aborts : goal.invariant-aborts
invariant-aborts l =
    (goal.iterator-aborts).can_next l.abort-iterator × (goal.iterator-aborts).is_finite l.abort-iterator
    × (any_trimmed (listed signed_abort_at l.abort-iterator.count l.abort-iterator.bytes.now) ≡ any_trimmed (listed signed_abort_at l.fn.aborts.count l.fn.aborts.bytes.now))
