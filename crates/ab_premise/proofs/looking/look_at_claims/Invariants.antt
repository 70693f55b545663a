use Rattle.std.proofs.Common.{◌≡◌, ◌||◌}
use Rattle.std.specs.Prelude.{flat_map}
use Rattle.ab_links.specs.Digested.{any_found, keep_items}
use Rattle.ab_premise.specs.Collisions.{content_items}
use Rattle.ab_premise.proofs.looking.look_at_claims.Given as goal

-- what is left is looked at
abbrev pub invariant-checks : goal.invariant-checks
invariant-checks l = record {
  next : (goal.iterator-checks).can_next l.check-iterator;
  finite : (goal.iterator-checks).is_finite l.check-iterator;
  keeps : keep_items l.digests (flat_map (λ c. content_items c.content) l.check-iterator) ≡ keep_items l.initial.digests (flat_map (λ c. content_items c.content) l.fn.checks);
  finds : (l.found || any_found l.digests (flat_map (λ c. content_items c.content) l.check-iterator)) ≡ any_found l.initial.digests (flat_map (λ c. content_items c.content) l.fn.checks);
}
