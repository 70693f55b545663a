use Rattle.std.proofs.Common.{◌≡◌, ◌||◌, map}
use Rattle.std.specs.Prelude.{flat_map}
use Rattle.ab_links.specs.Digested.{any_found, keep_items}
use Rattle.ab_premise.specs.Collisions.{value_items}
use Rattle.ab_wire.specs.Views.{proofs}
use Rattle.ab_premise.proofs.looking.look_at_changes.Given as goal

-- what is left is looked at
abbrev pub invariant-changes : goal.invariant-changes
invariant-changes l = record {
  next : (goal.iterator-changes).can_next l.change-iterator;
  finite : (goal.iterator-changes).is_finite l.change-iterator;
  keeps : keep_items l.digests (flat_map (flat_map value_items) (map (λ v. v.values) (proofs l.change-iterator))) ≡ keep_items l.initial.digests (flat_map (flat_map value_items) (map (λ v. v.values) (proofs l.fn.changes)));
  finds : (l.found || any_found l.digests (flat_map (flat_map value_items) (map (λ v. v.values) (proofs l.change-iterator)))) ≡ any_found l.initial.digests (flat_map (flat_map value_items) (map (λ v. v.values) (proofs l.fn.changes)));
}
