use Rattle.std.proofs.Common.{◌≡◌, []}
use Rattle.ab_wire.specs.Views.{chain_tags}
use Rattle.ab_chain.specs.Tags.{firsts, is_for_later}
use Rattle.ab_chain.proofs.route.Route.passed_on.Given as goal

abbrev pub invariant-tags : goal.invariant-tags
invariant-tags l =
    let passes = is_for_later l.self.cluster.f l.self.instance l.self.client l.self.position in
    (goal.iterator-tags).can_next l.t-iterator × (goal.iterator-tags).is_finite l.t-iterator × (firsts passes l.kept.items (chain_tags l.t-iterator) ≡ firsts passes [] (chain_tags l.fn.tags))
