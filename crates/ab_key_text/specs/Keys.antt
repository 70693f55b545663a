-- What one party of a cluster keeps: its keys, and the public keys of the replicas.
use Rattle.std.specs.Prelude.{◌≡◌, ℕ, ◌+◌, ◌*◌, ◌<◌, ◌≤◌, List, map, Option, None, Some, All, IsTrue, length}
use Rattle.std.specs.List.{AllByRecursion, filter, range_with_len}
use Rattle.ab_num.specs.declared.party.Party.{Party}
use Rattle.ab_num.specs.declared.party.Party.TheVariants.{Replica, Client}
use Rattle.ab_num.specs.declared.plan.Plan.{Plan}
use Rattle.ab_num.specs.declared.plan.ServiceName.{ServiceName}
use Rattle.ab_num.specs.declared.plan.Scheme.{Scheme}
use Rattle.ab_num.specs.Bounds.{IsInBounds}
use Rattle.ab_keys.specs.Keys.{is_party, exchanges}
use Rattle.ab_keys.specs.Rings.{Peer, Ring, parties}
use Rattle.ab_scheme.specs.Schemes.{public_length}
use Rattle.ab_text.specs.Heads.{most_built}

-- the name of a signer's tree, and the seed of its private values
pub record Secret : Type 0 where
  pub id : List ℕ
  pub seed : List ℕ

-- the cluster of a party, in which a checkpoint is due after `every` requests (0: never), its service and how its replicas sign, the party, its secret, what it shares with each of its peers, and the public key of each replica
pub record PartyKeys : Type 0 where
  pub f : ℕ
  pub clients : ℕ
  pub plan : Plan
  pub every : ℕ
  pub service : ServiceName
  pub lms : Scheme
  pub me : Party
  pub secret : Option Secret
  pub peers : List Peer
  pub publics : List (List ℕ)

-- its key ring
abbrev pub ring_in : PartyKeys → Ring
ring_in k = record { f = k.f; clients = k.clients; plan = k.plan; me = k.me; peers = k.peers }

-- the replicas of a cluster, ascending
abbrev pub replicas : ℕ → List Party
replicas f = map Replica (range_with_len 0 (3 * f + 1))

-- the parties that me exchanges tags with: replicas ascending, then clients ascending
abbrev pub peers_in : ℕ → ℕ → Party → List Party
peers_in f clients me = filter (exchanges me) (parties f clients)

-- so many bytes
pub record IsBytes (n : ℕ) (bytes : List ℕ) : Type 0 where
  pub long : length bytes ≡ n
  pub small : All (λ b. b < 256) bytes

-- a replica has a secret, and a client has none
abbrev pub IsSecretOf : Party → Option Secret → Type 0
IsSecretOf (Replica r) None = ⊥
IsSecretOf (Replica r) (Some s) = IsBytes 16 s.id × IsBytes 32 s.seed
IsSecretOf (Client c) None = Unit {0}
IsSecretOf (Client c) (Some s) = ⊥

-- a party of a cluster whose checkpoints are built, with two keys for each of its peers and a public key of each replica, as long as the scheme has it
pub record IsPartyKeys (k : PartyKeys) : Type 0 where
  pub bounds : IsInBounds k.f k.clients
  pub dense : k.every ≤ most_built k.plan
  pub party : IsTrue (is_party k.f k.clients k.me)
  pub secret : IsSecretOf k.me k.secret
  pub peers : map (λ x. x.party) k.peers ≡ peers_in k.f k.clients k.me
  pub keys : AllByRecursion (λ x. IsBytes 32 x.to × IsBytes 32 x.from) k.peers
  pub public_of_each : length k.publics ≡ 3 * k.f + 1
  pub publics : AllByRecursion (IsBytes (public_length k.lms)) k.publics

-- a replica has its secret, and there is a public key of each replica
pub record IsWhole (k : PartyKeys) : Type 0 where
  pub secret : (r : ℕ) → k.me ≡ Replica r → (s : Secret) × (k.secret ≡ Some s)
  pub public_of_each : length k.publics ≡ 3 * k.f + 1
