use Rattle.std.proofs.Common.{◌≡◌}
use Rattle.std.specs.List.{list_all, flat_map}
use Rattle.ab_keys.specs.Keys.{is_party}
use Rattle.ab_form.specs.Readers.{listed}
use Rattle.ab_wire.specs.Changes.{prepares_at}
use Rattle.ab_open.specs.Named.{signers_of}
use Rattle.ab_open.proofs.naming.has_prepares.Given as goal

abbrev pub invariant-prepares : goal.invariant-prepares
invariant-prepares l =
    (goal.iterator-prepares).can_next l.slot-iterator × (goal.iterator-prepares).is_finite l.slot-iterator
    × (list_all (is_party l.k.f l.k.clients) (flat_map signers_of (listed prepares_at l.slot-iterator.count l.slot-iterator.bytes.now))
    ≡ list_all (is_party l.k.f l.k.clients) (flat_map signers_of (listed prepares_at l.fn.prepares.count l.fn.prepares.bytes.now)))
