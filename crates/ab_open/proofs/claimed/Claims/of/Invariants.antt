use Rattle.std.proofs.Common.{◌≡◌, ◌++◌, map}
use Rattle.ab_open.specs.Claimed.{by_maker}
use Rattle.ab_open.proofs.claimed.Claims.of.Given as goal

abbrev pub invariant-checks : goal.invariant-checks
invariant-checks l =
    (goal.iterator-checks).can_next l.check-iterator × (goal.iterator-checks).is_finite l.check-iterator
    × (l.claims.items ++ map (λ k. by_maker k.content) l.check-iterator ≡ map (λ k. by_maker k.content) l.fn.given)
