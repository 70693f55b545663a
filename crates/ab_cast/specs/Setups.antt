-- A cluster in one program, with its faulty parties, the scheme by which its replicas sign, and the seed of its parties' keys.
use Rattle.std.specs.Prelude.{IsTrue, All, ◌≡◌, ℕ, ◌<◌, ◌-◌, ◌+◌, ◌*◌, ◌==◌, ◌&&◌, if◌then◌else◌, Bool, Option, None, Some, List, [], map, position, slice_get}
use Rattle.std.specs.List.{flat_map, range_with_len}
use Rattle.std.specs.Option.{option_map}
use Rattle.ab_num.specs.declared.party.Party.{Party}
use Rattle.ab_num.specs.declared.party.Party.TheVariants.{Replica, Client}
use Rattle.ab_num.specs.declared.cluster.Cluster.{Cluster}
use Rattle.ab_num.specs.declared.plan.Scheme.{Scheme}
use Rattle.ab_scheme.specs.Schemes.{signatures_in}
use Rattle.ab_sign.specs.declared.key.SignKey.{SignKey}
use Rattle.ab_sign.specs.Signers.{derived_keys, pen_of}
use Rattle.ab_keys.specs.Keys.{is_party}
use Rattle.ab_keys.specs.Rings.{Ring, ring_of}
use Rattle.ab_abs.specs.Faults.{is_faulty}
use Rattle.ab_run.specs.Setups.{RunSetup}
use Rattle.ab_party.specs.Credentials.{Credentials}
use Rattle.ab_cast.specs.declared.place.Place.{Place}
use Rattle.ab_cast.specs.declared.place.Place.TheVariants as place

-- each faulty party stands with the number of its cores
pub record Setup : Type 0 where
  pub cluster : Cluster
  pub faulty : List (Party × ℕ)
  pub lms : Scheme
  pub seed : List ℕ

-- the signature keys of the replicas
abbrev pub keys_of : Setup → List SignKey
keys_of x = derived_keys x.cluster.f x.lms x.seed

-- how many signatures each replica can make
abbrev pub signatures_of : Setup → ℕ
signatures_of x = signatures_in x.lms

-- what a run over it is set up with
abbrev pub run_setup : Setup → RunSetup
run_setup x = record { cluster = x.cluster; faulty = map (λ e. e.0) x.faulty; signatures = signatures_of x; sig = λ r. (pen_of (keys_of x) r 0).sig }

abbrev pub is_bad : Setup → Party → Bool
is_bad x p = is_faulty (run_setup x).faulty p

-- the keys of a party
abbrev pub ring_at : Setup → Party → Ring
ring_at x p = ring_of x.cluster.f x.cluster.clients x.cluster.plan x.seed p

-- what a party opens, signs and seals by
abbrev pub credentials_at : Setup → Party → Credentials
credentials_at x p = record { ring = ring_at x p; keys = keys_of x; every = x.cluster.every }

-- ---- where cores are

-- the cores of a faulty party from its second on, of replicas and of clients: the party's number, and the core's
abbrev pub twins_of_replica : Party → ℕ → List (ℕ × ℕ)
twins_of_replica (Replica r) cores = map (λ t. (r, t)) (range_with_len 2 (cores - 1))
twins_of_replica (Client c) cores = []

abbrev pub twins_of_client : Party → ℕ → List (ℕ × ℕ)
twins_of_client (Replica r) cores = []
twins_of_client (Client c) cores = map (λ t. (c, t)) (range_with_len 2 (cores - 1))

abbrev pub replica_twins : List (Party × ℕ) → List (ℕ × ℕ)
replica_twins faulty = flat_map (λ e. twins_of_replica e.0 e.1) faulty

abbrev pub client_twins : List (Party × ℕ) → List (ℕ × ℕ)
client_twins faulty = flat_map (λ e. twins_of_client e.0 e.1) faulty

-- the first core of a party is the party's own
abbrev pub own_place : Party → Place
own_place (Replica r) = place.Replica r
own_place (Client c) = place.Client c

-- core number twin of a party, if it has so many
abbrev pub twin_place : List (Party × ℕ) → Party → ℕ → Option Place
twin_place faulty (Replica r) twin = option_map (place.ReplicaTwin r) (position (λ k. (k.0 == r) && (k.1 == twin)) (replica_twins faulty))
twin_place faulty (Client c) twin = option_map (place.ClientTwin c) (position (λ k. (k.0 == c) && (k.1 == twin)) (client_twins faulty))

-- only a faulty party has numbered cores
abbrev pub numbered_place : Setup → Party → Option ℕ → Option Place
numbered_place x p None = Some (own_place p)
numbered_place x p (Some twin) =
    if is_bad x p then (if twin == 1 then Some (own_place p) else twin_place x.faulty p twin) else None

-- the place of a core, if the cluster has it
abbrev pub place_of : Setup → Party → Option ℕ → Option Place
place_of x p twin = if is_party x.cluster.f x.cluster.clients p then numbered_place x p twin else None

-- a core without a number is the party's first
abbrev pub core_number : Option ℕ → ℕ
core_number None = 1
core_number (Some twin) = twin

-- whose core stands at a place
abbrev pub party_at : Place → Party
party_at (place.Replica r) = Replica r
party_at (place.Client c) = Client c
party_at (place.ReplicaTwin r at) = Replica r
party_at (place.ClientTwin c at) = Client c

-- the faulty ones are parties, the signature keys and rings stand by the numbers of their parties, and the further cores of the faulty parties in the order of the list
pub record IsSetup (x : Setup) (signers : List SignKey) (replica_rings client_rings : List Ring) (replicas clients : List (ℕ × ℕ)) : Type 0 where
  pub parties : All (λ e. IsTrue (is_party x.cluster.f x.cluster.clients e.0)) x.faulty
  pub keys : signers ≡ keys_of x
  pub of_replicas : (r : ℕ) → r < 3 * x.cluster.f + 1 → slice_get replica_rings r ≡ Some (ring_at x (Replica r))
  pub of_clients : (c : ℕ) → c < x.cluster.clients → slice_get client_rings c ≡ Some (ring_at x (Client c))
  pub twins_of_replicas : replicas ≡ replica_twins x.faulty
  pub twins_of_clients : clients ≡ client_twins x.faulty
