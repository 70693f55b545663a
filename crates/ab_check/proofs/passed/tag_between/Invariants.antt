use Rattle.std.proofs.Common.{◌≡◌}
use Rattle.ab_wire.specs.Views.{chain_tags}
use Rattle.ab_check.specs.Checks.{tag_between}
use Rattle.ab_check.proofs.passed.tag_between.Given as goal

abbrev pub invariant-tags : goal.invariant-tags
invariant-tags l =
    (goal.iterator-tags).can_next l.t-iterator × (goal.iterator-tags).is_finite l.t-iterator × (tag_between l.by l.to (chain_tags l.t-iterator) ≡ tag_between l.by l.to (chain_tags l.fn.tags))
