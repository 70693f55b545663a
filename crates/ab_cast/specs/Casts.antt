-- The cores of all parties of a cluster.
use Rattle.std.specs.Prelude.{◌≡◌, ℕ, zero, suc, ◌+◌, ◌*◌, ◌<◌, ◌≤◌, Bool, false, Option, None, Some, List, [], ◌∷◌, ◌++◌, All, length, map, slice_get, slice_set}
use Rattle.std.specs.Option.{option_map}
use Rattle.ab_num.specs.declared.cluster.Cluster.{Cluster}
use Rattle.ab_num.specs.declared.party.Party.TheVariants.{Replica}
use Rattle.ab_num.specs.declared.plan.Kind.{Kind}
use Rattle.ab_num.specs.Limits.{most_events}
use Rattle.ab_msg.specs.declared.message.Out.{Out}
use Rattle.ab_abs.specs.declared.seen.Seen.{Seen}
use Rattle.ab_abs.specs.Ensembles.{Proto}
use Rattle.ab_abs.specs.Promises.{ServesAll}
use Rattle.ab_run.specs.Local.{Cue}
use Rattle.ab_run.specs.Forms.{IsDraftOf}
use Rattle.ab_run.specs.Replicas.{Rep}
use Rattle.ab_replica.specs.Sites.{Site}
use Rattle.ab_run.specs.Clients.{Cli}
use Rattle.ab_run.specs.Runs.{first_rep, first_cli}
use Rattle.ab_client.specs.Clients.{Seat}
use Rattle.ab_party.specs.declared.fault.CommandFault.{CommandFault}
use Rattle.ab_party.specs.declared.fault.CommandFault.TheVariants.{NoClient}
use Rattle.ab_party.specs.Parties.{IsCauseOf, IsReplicaOf, is_idle, seat_refusal}
use Rattle.ab_cast.specs.declared.place.Place.{Place}
use Rattle.ab_cast.specs.declared.place.Place.TheVariants as place
use Rattle.ab_cast.specs.Setups.{Setup, credentials_at, run_setup, signatures_of, replica_twins, client_twins, party_at}
use Rattle.ab_cast.specs.Cores.{Core, replica, client, core_after, core_sends, core_marks, core_spends}

-- each party's own core by the party's number, the further ones of faulty parties, and how many events there were
pub record Cast (P : Type 0) : Type 0 where
  pub setup : Setup
  pub replicas : List (Site P)
  pub clients : List Seat
  pub replica_twins : List (Site P)
  pub client_twins : List Seat
  pub events : ℕ

module _ {P : Type 0} where
  abbrev pub core_at : Cast P → Place → Option (Core P)
  core_at x (place.Replica r) = option_map replica (slice_get x.replicas r)
  core_at x (place.Client c) = option_map client (slice_get x.clients c)
  core_at x (place.ReplicaTwin r at) = option_map replica (slice_get x.replica_twins at)
  core_at x (place.ClientTwin c at) = option_map client (slice_get x.client_twins at)

  -- a replica is put where replicas are
  abbrev pub with_replica : Cast P → Place → Site P → Cast P
  with_replica x (place.Replica r) s = record x { replicas = slice_set x.replicas r s }
  with_replica x (place.Client c) s = x
  with_replica x (place.ReplicaTwin r at) s = record x { replica_twins = slice_set x.replica_twins at s }
  with_replica x (place.ClientTwin c at) s = x

  abbrev pub with_client : Cast P → Place → Seat → Cast P
  with_client x (place.Replica r) s = x
  with_client x (place.Client c) s = record x { clients = slice_set x.clients c s }
  with_client x (place.ReplicaTwin r at) s = x
  with_client x (place.ClientTwin c at) s = record x { client_twins = slice_set x.client_twins at s }

  abbrev pub with_core : Cast P → Place → Core P → Cast P
  with_core x p (replica s) = with_replica x p s
  with_core x p (client s) = with_client x p s

  -- one event more
  abbrev pub next : Cast P → Cast P
  next x = record x { events = x.events + 1 }

-- the core at a place takes what comes: it alone changes, and outs, marks and spent are what it sends, what is seen of it, and whether
-- the event was spent
pub record IsTaken {P : Type 0} (proto : Proto P) (x : Cast P) (at : Place) (s : Core P) (cue : Cue) (now : Cast P) (outs : List Out) (marks : List Seen) (spent : Bool) : Type 0 where
  pub after : now ≡ next (with_core x at (core_after x.setup proto (party_at at) s cue))
  pub sends : outs ≡ core_sends x.setup proto (party_at at) s cue
  pub shows : marks ≡ core_marks x.setup proto (party_at at) s cue
  pub spends : spent ≡ core_spends x.setup proto (party_at at) s cue
  pub drafts : All (IsDraftOf x.setup.cluster.f (party_at at)) outs

-- ---- before the first event

abbrev pub first_seat : Cluster → ℕ → Seat
first_seat c n = record { me = n; cluster = c; cli = first_cli }

-- the seats of the first n clients
abbrev pub first_seats : Cluster → ℕ → List Seat
first_seats c zero = []
first_seats c (suc n) = first_seats c n ++ first_seat c n ∷ []

-- the first replicas, by their numbers
abbrev pub first_site : {P : Type 0} → Setup → Proto P → ℕ → Site P
first_site x proto r = record { cluster = x.cluster; me = r; signatures = signatures_of x; rep = first_rep (run_setup x) proto r; entries = 0 }

abbrev pub first_sites : {P : Type 0} → Setup → Proto P → ℕ → List (Site P)
first_sites x proto zero = []
first_sites x proto (suc n) = first_sites x proto n ++ first_site x proto n ∷ []

abbrev pub first_cast : {P : Type 0} → Proto P → Setup → Cast P
first_cast proto x = record {
  setup = x;
  replicas = first_sites x proto (3 * x.cluster.f + 1);
  clients = first_seats x.cluster x.cluster.clients;
  replica_twins = map (λ k. first_site x proto k.0) (replica_twins x.faulty);
  client_twins = map (λ k. first_seat x.cluster k.0) (client_twins x.faulty);
  events = 0;
}

-- ---- what a run sees of cores

abbrev pub reps_of : {P : Type 0} → List (Site P) → List (Rep P)
reps_of sites = map (λ s. s.rep) sites

abbrev pub clis_of : List Seat → List Cli
clis_of seats = map (λ s. s.cli) seats

-- whether a client is there and has no request open
abbrev pub is_free : Option Seat → Bool
is_free None = false
is_free (Some s) = is_idle s.cli.phase

-- why a core takes no command, if it doesn't
abbrev pub command_refusal : {P : Type 0} → Core P → Option CommandFault
command_refusal (replica s) = Some NoClient
command_refusal (client s) = seat_refusal s

-- a fault is the stated refusal. Memory is refused only where nothing else is
abbrev pub CommandCause : {P : Type 0} → CommandFault → Core P → Type 0
CommandCause e s = IsCauseOf e (command_refusal s)

-- client n of a cluster
abbrev pub IsSeatOf : Cluster → ℕ → Seat → Type 0
IsSeatOf c n s = (s.me ≡ n) × (s.cluster ≡ c)

-- client n of a cluster. Each event raises a stamp by one at most
pub record IsSeat (c : Cluster) (events n : ℕ) (s : Seat) : Type 0 where
  pub own : s.me ≡ n
  pub placed : s.cluster ≡ c
  pub stamp : s.cli.stamp ≤ events

-- each own client sits at its number
abbrev pub AreSeats : Cluster → ℕ → List Seat → Type 0
AreSeats c events seats = (n : ℕ) (s : Seat) → slice_get seats n ≡ Some s → IsSeat c events n s

-- the same of the further cores of clients, where numbers stand the clients' numbers
abbrev pub AreTwinSeats : Cluster → ℕ → List (ℕ × ℕ) → List Seat → Type 0
AreTwinSeats c events numbers seats =
    (at : ℕ) (k : ℕ × ℕ) (s : Seat) → slice_get numbers at ≡ Some k → slice_get seats at ≡ Some s → IsSeat c events k.0 s

-- replica r of the cluster, by its party's credentials
pub record IsSite {P : Type 0} (proto : Proto P) (serves : Kind → Bool) (x : Setup) (r : ℕ) (s : Site P) : Type 0 where
  pub placed : s.cluster ≡ x.cluster
  pub own : s.me ≡ r
  pub signatures : s.signatures ≡ signatures_of x
  pub holds : r < 3 * x.cluster.f + 1 → IsReplicaOf proto serves (credentials_at x (Replica r)) s

module _ {P : Type 0} (proto : Proto P) (serves : Kind → Bool) (x : Setup) where
  -- each own replica is at its number
  abbrev pub AreOwn : List (Site P) → Type 0
  AreOwn replicas = (r : ℕ) (s : Site P) → slice_get replicas r ≡ Some s → IsSite proto serves x r s

  -- the same of the further cores of replicas
  abbrev pub AreTwins : List (ℕ × ℕ) → List (Site P) → Type 0
  AreTwins numbers replicas =
      (at : ℕ) (k : ℕ × ℕ) (s : Site P) → slice_get numbers at ≡ Some k → slice_get replicas at ≡ Some s → IsSite proto serves x k.0 s

-- what holds of the cores of a cluster in every event: as many as the setup says, each where its party's are
pub record IsCast {P : Type 0} (proto : Proto P) (serves : Kind → Bool) (x : Cast P) : Type 0 where
  pub all_replicas : length x.replicas ≡ 3 * x.setup.cluster.f + 1
  pub all_clients : length x.clients ≡ x.setup.cluster.clients
  pub all_replica_twins : length x.replica_twins ≡ length (replica_twins x.setup.faulty)
  pub all_client_twins : length x.client_twins ≡ length (client_twins x.setup.faulty)
  pub serves_all : ServesAll serves x.setup.cluster
  pub own_replicas : AreOwn proto serves x.setup x.replicas
  pub twin_replicas : AreTwins proto serves x.setup (replica_twins x.setup.faulty) x.replica_twins
  pub seats : AreSeats x.setup.cluster x.events x.clients
  pub twin_seats : AreTwinSeats x.setup.cluster x.events (client_twins x.setup.faulty) x.client_twins
  pub few_events : x.events ≤ most_events
