use Rattle.std.proofs.Common.{◌≡◌, [], map}
use Rattle.ab_wire.specs.Views.{tags}
use Rattle.ab_chain.specs.Tags.{firsts, by_client, is_for_later}
use Rattle.ab_chain.proofs.route.Route.of_client.Given as goal

abbrev pub invariant-tags : goal.invariant-tags
invariant-tags l =
    let passes = is_for_later l.self.cluster.f l.self.instance l.self.client l.self.position in
    (goal.iterator-tags).can_next l.t-iterator × (goal.iterator-tags).is_finite l.t-iterator
    × (firsts passes l.kept.items (map (by_client l.self.client) (tags l.t-iterator)) ≡ firsts passes [] (map (by_client l.self.client) (tags l.fn.tags)))
