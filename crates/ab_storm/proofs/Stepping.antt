-- What an event of a party's own core leaves as it was.
use Rattle.std.proofs.Common.{◌≡◌, ℕ, ◌+◌, ◌≤◌, Option, None, Some, Result, Ok, Err, length, refl, arith}
use Rattle.std.specs.Prelude.{slice_get}
use Rattle.std.specs.Option.{option_map}
use Rattle.ab_num.specs.declared.party.Party.{Party}
use Rattle.ab_num.specs.declared.party.Party.TheVariants.{Replica, Client}
use Rattle.ab_num.proofs.Lists.{length-slice_set}
use Rattle.ab_open.specs.declared.fault.OpenFault.{OpenFault}
use Rattle.ab_abs.specs.Ensembles.{Proto}
use Rattle.ab_run.specs.Local.{Cue, cue_command, cue_message, cue_time}
use Rattle.ab_replica.specs.Sites.{Site}
use Rattle.ab_client.specs.Clients.{Seat}
use Rattle.ab_cast.specs.Setups.{own_place, party_at}
use Rattle.ab_cast.specs.Cores.{replica, client}
use Rattle.ab_cast.specs.Casts.{core_at}
use Rattle.ab_world.specs.Steps.{Given, cue_from, moved_at, after_taking, after}
use Rattle.ab_world.specs.Worlds.{World}

module _ {P : Type 0} (proto : Proto P) (w : World P) where
  -- of the same setup, with as many replicas and clients, at most one event later, and no more ended
  pub record Keeps (v : World P) : Type 0 where
    pub setup : v.cast.setup ≡ w.cast.setup
    pub replicas : length v.cast.replicas ≡ length w.cast.replicas
    pub clients : length v.cast.clients ≡ length w.cast.clients
    pub events : v.cast.events ≤ w.cast.events + 1
    pub ended : v.ended ≡ w.ended

  still : Keeps w
  still = record { setup = refl; replicas = refl; clients = refl; events = omega arith; ended = refl }

  replica_keeps : (r : ℕ) (cue : Cue) (o : Option (Site P)) → Keeps (moved_at proto w (own_place (Replica r)) cue (option_map replica o))
  replica_keeps r cue None = still
  replica_keeps r (cue_command bytes) (Some s) = record { setup = refl; replicas = length-slice_set w.cast.replicas r _; clients = refl; events = omega arith; ended = refl }
  replica_keeps r (cue_message m) (Some s) = record { setup = refl; replicas = length-slice_set w.cast.replicas r _; clients = refl; events = omega arith; ended = refl }
  replica_keeps r cue_time (Some s) = record { setup = refl; replicas = length-slice_set w.cast.replicas r _; clients = refl; events = omega arith; ended = refl }

  client_keeps : (c : ℕ) (cue : Cue) (o : Option Seat) → Keeps (moved_at proto w (own_place (Client c)) cue (option_map client o))
  client_keeps c cue None = still
  client_keeps c cue (Some s) = record { setup = refl; replicas = refl; clients = length-slice_set w.cast.clients c _; events = omega arith; ended = refl }

  own_keeps : (p : Party) (cue : Cue) → Keeps (moved_at proto w (own_place p) cue (core_at w.cast (own_place p)))
  own_keeps (Replica r) cue = replica_keeps r cue (slice_get w.cast.replicas r)
  own_keeps (Client c) cue = client_keeps c cue (slice_get w.cast.clients c)

  taking_keeps : (p : Party) (r : Result Cue OpenFault) → Keeps (after_taking proto w (own_place p) r)
  taking_keeps p (Ok cue) = own_keeps p cue
  taking_keeps p (Err fault) = record { setup = refl; replicas = refl; clients = refl; events = omega arith; ended = refl }

  -- what is given to a party's own core
  pub given_keeps : (p : Party) (g : Given) → Keeps (after proto w (record { place = own_place p; given = g }))
  given_keeps p g = taking_keeps p (cue_from w.cast.setup (party_at (own_place p)) g)
