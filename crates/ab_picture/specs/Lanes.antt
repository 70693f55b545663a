-- The lifelines of a picture.
use Rattle.std.specs.Prelude.{ℕ, ◌+◌, ◌*◌, List, [], ◌∷◌, ◌++◌, Option, None, Some, true, false, find, map}
use Rattle.std.specs.List.{flat_map, range_with_len}
use Rattle.std.specs.Option.{option_map}
use Rattle.ab_num.specs.declared.cluster.Cluster.{Cluster}
use Rattle.ab_num.specs.declared.party.Party.{Party}
use Rattle.ab_num.specs.declared.party.Party.TheVariants.{Replica, Client}
use Rattle.ab_num.specs.Parties.{party_eq}
use Rattle.ab_picture.specs.declared.picture.Lane.{Lane}

-- how many cores a faulty party has
abbrev pub cores_of : List (Party × ℕ) → Party → Option ℕ
cores_of faulty p = option_map (λ e. e.1) (find (λ e. party_eq e.0 p) faulty)

-- the lane of a correct party
abbrev pub lane_of : Party → Lane
lane_of p = record { core = record { party = p; twin = None }; faulty = false }

-- the lane of a faulty party's core of this number
abbrev pub twin_lane : Party → ℕ → Lane
twin_lane p t = record { core = record { party = p; twin = Some t }; faulty = true }

-- one lane, or those of all cores of a faulty party side by side
abbrev pub lanes_for : Party → Option ℕ → List Lane
lanes_for p None = lane_of p ∷ []
lanes_for p (Some cores) = map (twin_lane p) (range_with_len 1 cores)

abbrev pub party_lanes : List (Party × ℕ) → Party → List Lane
party_lanes faulty p = lanes_for p (cores_of faulty p)

-- those of the clients, and then those of the replicas
abbrev pub lanes_of : Cluster → List (Party × ℕ) → List Lane
lanes_of c faulty =
    flat_map (λ n. party_lanes faulty (Client n)) (range_with_len 0 c.clients)
    ++ flat_map (λ r. party_lanes faulty (Replica r)) (range_with_len 0 (3 * c.f + 1))
