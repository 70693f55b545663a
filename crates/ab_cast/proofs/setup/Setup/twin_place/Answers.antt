use Rattle.std.proofs.Common.{ℕ, List, Option, ◌&&◌, ◌==◌, position, sym, ◌∙◌, ap}
use Rattle.std.specs.Option.{option_map}
use Rattle.ab_cast.specs.declared.place.Place.{Place}
use Rattle.ab_cast.specs.declared.place.Place.TheVariants as place
use Rattle.ab_cast.specs.Setups.{twin_place, replica_twins, client_twins}
use Rattle.ab_cast.proofs.setup.Setup.twin_place.Goals as goal

pub returns-in-Replica : goal.returns-in-Replica
returns-in-Replica c =
    let found : List (ℕ × ℕ) → Option Place = λ twins. option_map (place.ReplicaTwin c.in-Replica.r) (position (λ k. (k.0 == c.in-Replica.r) && (k.1 == c.args.number)) twins) in
    c.replica_twin_place.ensures
    ∙ ap found (c.as_slice.ensures.value ∙ c.self.invariant.twins_of_replicas ∙ ap (λ x. replica_twins x.faulty) c.self.view_is)
    ∙ ap (λ p. twin_place c.args.self.now.faulty p c.args.number) (sym c.in-Replica.is)

pub returns-in-Client : goal.returns-in-Client
returns-in-Client c =
    let found : List (ℕ × ℕ) → Option Place = λ twins. option_map (place.ClientTwin c.in-Client.c) (position (λ k. (k.0 == c.in-Client.c) && (k.1 == c.args.number)) twins) in
    c.client_twin_place.ensures
    ∙ ap found (c.as_slice-in-Client.ensures.value ∙ c.self.invariant.twins_of_clients ∙ ap (λ x. client_twins x.faulty) c.self.view_is)
    ∙ ap (λ p. twin_place c.args.self.now.faulty p c.args.number) (sym c.in-Client.is)
