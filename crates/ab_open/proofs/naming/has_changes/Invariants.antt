use Rattle.std.proofs.Common.{◌≡◌}
use Rattle.std.specs.List.{list_all, flat_map}
use Rattle.ab_keys.specs.Keys.{is_party}
use Rattle.ab_form.specs.Readers.{listed}
use Rattle.ab_wire.specs.Changes.{proof_at}
use Rattle.ab_open.specs.Named.{change_names}
use Rattle.ab_open.proofs.naming.has_changes.Given as goal

abbrev pub invariant-changes : goal.invariant-changes
invariant-changes l =
    (goal.iterator-changes).can_next l.v-iterator × (goal.iterator-changes).is_finite l.v-iterator
    × (list_all (is_party l.k.f l.k.clients) (flat_map change_names (listed proof_at l.v-iterator.count l.v-iterator.bytes.now))
    ≡ list_all (is_party l.k.f l.k.clients) (flat_map change_names (listed proof_at l.fn.changes.count l.fn.changes.bytes.now)))
