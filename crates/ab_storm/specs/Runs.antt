-- Storms that are run: events that are drawn one after another, each from where the world stands then.
use Rattle.std.specs.Prelude.{◌≡◌, ◌↔◌, ⊤, ℕ, zero, suc, Bool, IsTrue, List, [], ◌∷◌, length, map, replicate, slice_get, Option, None, Some, Result, Ok, Err}
use Rattle.std.specs.List.{range_with_len}
use Rattle.ab_num.specs.declared.cluster.Cluster.{Cluster}
use Rattle.ab_num.specs.declared.plan.Height.TheVariants.{Ten}
use Rattle.ab_num.specs.declared.plan.Scheme.TheVariants.{Lms}
use Rattle.ab_text.specs.declared.event.Event.{Event}
use Rattle.ab_text.specs.declared.line.Premise.TheVariants.{Held}
use Rattle.ab_words.specs.Commands.{StormCommand}
use Rattle.ab_party.specs.Clusters.{IsSized}
use Rattle.ab_storm.specs.Storms.{Storm, next_of}
use Rattle.ab_svc.specs.Machines.{Machine}
use Rattle.ab_abs.specs.Ensembles.{Proto}
use Rattle.ab_cast.specs.Setups.{Setup}
use Rattle.ab_cast.specs.Casts.{is_free}
use Rattle.ab_world.specs.declared.fault.WorldFault.{WorldFault}
use Rattle.ab_world.specs.declared.fault.WorldFault.TheVariants as world_fault
use Rattle.ab_world.specs.Runs.{outcome}
use Rattle.ab_world.specs.Steps.{stepped}
use Rattle.ab_world.specs.Told.{IsTold}
use Rattle.ab_world.specs.Worlds.{World, start, premise_of}
use Rattle.ab_storm.specs.declared.running.StormFault.{StormFault}
use Rattle.ab_storm.specs.declared.running.StormFault.TheVariants as storm_fault
use Rattle.ab_storm.specs.Summaries.{summary_of}

-- ---- what is drawn

-- for each number whether it is that of a client who has no request open
abbrev pub idle_of : {P : Type 0} → World P → List Bool
idle_of w = map (λ c. is_free (slice_get w.cast.clients c)) (range_with_len 0 16)

-- the event that a storm draws where the world stands, and the storm after it
abbrev pub drawn_at : {P : Type 0} → Storm → World P → Event × Storm
drawn_at s w = next_of (length w.packets) (idle_of w) s

-- nothing is drawn behind a refusal
abbrev pub drawn_behind : {P : Type 0} → Result (World P) WorldFault → (World P → List Event) → List Event
drawn_behind (Ok w) rest = rest w
drawn_behind (Err fault) rest = []

-- n events, each drawn where the world stands after those before it
abbrev pub drawn_events : {P : Type 0} → Proto P → ℕ → Storm → World P → List Event
drawn_events proto zero s w = []
drawn_events proto (suc n) s w = (drawn_at s w).0 ∷ drawn_behind (stepped proto w (drawn_at s w).0) (λ v. drawn_events proto n (drawn_at s w).1 v)

-- ---- the run of a storm

-- a storm's cluster, in which no party is faulty, with the keys of the seed of zeros
abbrev pub storm_setup : Cluster → Setup
storm_setup c = record { cluster = c; faulty = []; lms = Lms Ten; seed = replicate 32 0 }

-- the storm of a seed before its first event
abbrev pub storm_of : Cluster → ℕ → Storm
storm_of c seed = record { cluster = c; state = seed; turn = 0 }

-- the events that are drawn in a cluster, and the world after them, or the first refusal with its event's number
abbrev pub events_in : {P : Type 0} → Proto P → Cluster → StormCommand → List Event
events_in proto c k = drawn_events proto k.events (storm_of c k.seed) (start proto (storm_setup c))

abbrev pub run_in : {P : Type 0} → Proto P → Cluster → StormCommand → Result (World P) (ℕ × WorldFault)
run_in proto c k = outcome proto 1 (start proto (storm_setup c)) (events_in proto c k)

-- the run of the storm that is asked for comes to this
pub record StormsTo {P : Type 0} (proto : Proto P) (k : StormCommand) (r : Result (World P) (ℕ × WorldFault)) : Type 0 where
  pub cluster : Cluster
  pub sized : IsSized cluster k.f k.clients k.plan 0
  pub runs : run_in proto cluster k ≡ r

-- ---- what is told

-- the storm that is asked for draws all its events, and this is the summary of their run, which tells of that run
pub record Storms {S P : Type 0} (machine : Machine S) (proto : Proto P) (k : StormCommand) (summary : List ℕ) (held : Bool) : Type 0 where
  pub cluster : Cluster
  pub sized : IsSized cluster k.f k.clients k.plan 0
  pub all : length (events_in proto cluster k) ≡ k.events
  pub end : World P
  pub runs : run_in proto cluster k ≡ Ok end
  pub sums : summary ≡ summary_of end
  pub says : IsTrue held ↔ (premise_of end ≡ Held)
  pub told : IsTold machine proto (storm_setup cluster) (events_in proto cluster k) end

-- ---- faults

-- what ends a storm at an event
abbrev pub end_of : WorldFault → Option StormFault
end_of world_fault.PacketLimit = Some storm_fault.TooManyPackets
end_of world_fault.OutOfMemory = Some storm_fault.OutOfMemory
end_of world_fault.EventLimit = None
end_of world_fault.BadCommand = None
end_of world_fault.NoPacket = None
end_of world_fault.BadParty = None
end_of world_fault.Busy = None

-- when each fault of an event comes
abbrev pub StepCause : {P : Type 0} → StormFault → Result (World P) WorldFault → Type 0
StepCause storm_fault.TooManyPackets r = r ≡ Err world_fault.PacketLimit
StepCause storm_fault.OutOfMemory r = ⊤

-- when each fault of a run comes
abbrev pub EndCause : {P : Type 0} → StormFault → Result (World P) (ℕ × WorldFault) → Type 0
EndCause storm_fault.TooManyPackets r = (n : ℕ) × (r ≡ Err (n, world_fault.PacketLimit))
EndCause storm_fault.OutOfMemory r = ⊤

-- when each fault of a storm comes
abbrev pub StormCause : {P : Type 0} → Proto P → StormFault → StormCommand → Type 0
StormCause proto storm_fault.TooManyPackets k = (n : ℕ) × StormsTo proto k (Err (n, world_fault.PacketLimit))
StormCause proto storm_fault.OutOfMemory k = ⊤
