use Rattle.std.proofs.Common.{◌≡◌}
use Rattle.std.specs.List.{list_all}
use Rattle.ab_keys.specs.Keys.{is_party}
use Rattle.ab_form.specs.Readers.{listed}
use Rattle.ab_wire.specs.Signed.{signed_abort_at}
use Rattle.ab_open.specs.Named.{aborts_name}
use Rattle.ab_open.proofs.naming.has_aborts.Given as goal

abbrev pub invariant-aborts : goal.invariant-aborts
invariant-aborts l =
    (goal.iterator-aborts).can_next l.abort-iterator × (goal.iterator-aborts).is_finite l.abort-iterator
    × (list_all (is_party l.k.f l.k.clients) (aborts_name (listed signed_abort_at l.abort-iterator.count l.abort-iterator.bytes.now))
    ≡ list_all (is_party l.k.f l.k.clients) (aborts_name (listed signed_abort_at l.fn.aborts.count l.fn.aborts.bytes.now)))
