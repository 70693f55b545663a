-- Random events: a linear congruential generator, and what it draws.
use Rattle.std.specs.Prelude.{◌≡◌, ◌<◌, ◌≤◌, length, slice_get, ℕ, suc, ◌+◌, ◌*◌, ◌^◌, ◌-◌, ◌/◌, ◌%◌, ◌==◌, min, Bool, true, false, nat_lt, if◌then◌else◌, Option, Some, None, List, [], ◌∷◌, ◌++◌, codes, decimal}
use Rattle.ab_num.specs.declared.cluster.Cluster.{Cluster}
use Rattle.ab_num.specs.declared.party.Party.{Party}
use Rattle.ab_num.specs.declared.party.Party.TheVariants.{Replica, Client}
use Rattle.ab_text.specs.declared.event.Core.{Core}
use Rattle.ab_text.specs.declared.event.Event.{Event}
use Rattle.ab_text.specs.declared.event.Event.TheVariants.{Invoke, Deliver, Timeout, Inject}

-- the state of the generator for a cluster, and how many packets were delivered in turn
pub record Storm : Type 0 where
  pub cluster : Cluster
  pub state : ℕ
  pub turn : ℕ

-- the generator one step on
abbrev pub stepped : Storm → Storm
stepped s = record s { state = (s.state * 6364136223846793005 + 1442695040888963407) % 2 ^ 64 }

-- what the state draws below m
abbrev pub drawn : ℕ → Storm → ℕ
drawn m s = (s.state / 2 ^ 33) % m

-- the packet in turn is counted, if one is left
abbrev pub turned : ℕ → Storm → Storm
turned packets s = if nat_lt s.turn packets then record s { turn = s.turn + 1 } else s

abbrev pub core_of : Party → Core
core_of p = record { party = p; twin = None }

abbrev pub deliver : ℕ → Event
deliver packet = Deliver packet None

abbrev pub invoke : ℕ → List ℕ → Event
invoke c command = Invoke (core_of (Client c)) (record { items = command })

abbrev pub timeout : Party → Event
timeout p = Timeout (core_of p)

-- the timer of a client, and of a replica, runs out
abbrev pub client_timeout : Storm → Event × Storm
client_timeout s = let t = stepped s in (timeout (Client (drawn s.cluster.clients t)), t)

abbrev pub replica_timeout : Storm → Event × Storm
replica_timeout s = let t = stepped s in (timeout (Replica (drawn (3 * s.cluster.f + 1) t)), t)

-- the next packet in turn, or else a client's timer
abbrev pub in_turn : ℕ → Storm → Event × Storm
in_turn packets s = if nat_lt s.turn packets then (deliver (s.turn + 1), turned packets s) else client_timeout s

abbrev pub put_text : ℕ → ℕ → List ℕ
put_text key value = codes "put k" ++ (decimal key ++ (codes " v" ++ decimal value))

-- a client puts a value
abbrev pub put : ℕ → Storm → Event × Storm
put c s = let t = stepped s in let u = stepped t in (invoke c (put_text (drawn 10 t) (drawn 1000 u)), u)

abbrev pub put_or : Option ℕ → ℕ → Storm → Event × Storm
put_or (Some c) packets s = put c s
put_or None packets s = in_turn packets s

-- the lowest idle client, from client c on
abbrev pub first_idle : ℕ → List Bool → Option ℕ
first_idle c [] = None
first_idle c (true ∷ idle) = Some c
first_idle c (false ∷ idle) = first_idle (suc c) idle

-- the lowest idle client puts a value; where none is idle, the next packet in turn
abbrev pub fresh : ℕ → List Bool → Storm → Event × Storm
fresh packets idle s = put_or (first_idle 0 idle) packets s

-- any packet once more
abbrev pub any_packet : ℕ → Storm → Event × Storm
any_packet packets s = let t = stepped (turned packets s) in (deliver (1 + drawn packets t), t)

-- one of the last 64 packets
abbrev pub late_packet : ℕ → Storm → Event × Storm
late_packet packets s = let t = stepped s in (deliver (packets - drawn (min packets 64) t), t)

-- the event that number n below 64 chooses
abbrev pub chosen : ℕ → ℕ → List Bool → Storm → Event × Storm
chosen n packets idle s =
    if nat_lt n 48
    then (if nat_lt s.turn packets then in_turn packets s else fresh packets idle s)
    else if nat_lt n 52
    then (if packets == 0 then fresh packets idle s else any_packet packets s)
    else if nat_lt n 56
    then (if packets == 0 then fresh packets idle s else late_packet packets s)
    else if nat_lt n 62 then fresh packets idle s else if n == 62 then client_timeout s else replica_timeout s

-- the next event where so many packets were sent and these clients are idle, and the storm after it
abbrev pub next_of : ℕ → List Bool → Storm → Event × Storm
next_of packets idle s = let t = stepped s in chosen (drawn 64 t) packets idle t

-- ---- what a storm draws can happen

-- a party of the cluster
abbrev pub IsParty : Cluster → Party → Type 0
IsParty cluster (Replica r) = r < 3 * cluster.f + 1
IsParty cluster (Client c) = c < cluster.clients

-- a command of an idle client
abbrev pub IsAsked : List Bool → Party → List ℕ → Type 0
IsAsked idle (Replica r) command = ⊥
IsAsked idle (Client c) command = (slice_get idle c ≡ Some true) × (1 ≤ length command) × (length command ≤ 128)

-- a packet that was sent, an idle client, or a party of the cluster, each by its only core
abbrev pub CanHappen : Cluster → ℕ → List Bool → Event → Type 0
CanHappen cluster packets idle (Invoke core command) = (core.twin ≡ None) × IsAsked idle core.party command.items
CanHappen cluster packets idle (Deliver packet core) = (core ≡ None) × (1 ≤ packet) × (packet ≤ packets)
CanHappen cluster packets idle (Timeout core) = (core.twin ≡ None) × IsParty cluster core.party
CanHappen cluster packets idle (Inject core bytes) = ⊥
