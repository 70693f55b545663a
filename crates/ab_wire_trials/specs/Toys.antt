-- A small client for tests: a command goes to four replicas, and the fourth message that comes is a commit.
use Rattle.std.specs.Prelude.{ℕ, ◌+◌, ◌==◌, List, [], ◌∷◌, Option, None, Some, false, true, if◌then◌else◌}
use Rattle.ab_num.specs.declared.party.Party.TheVariants.{Replica}
use Rattle.ab_loop.specs.declared.party_core.Commit.{Commit}
use Rattle.ab_loop.specs.Cores.{NodeEvent, invoke, message, timeout, Reaction, Rules}
use Rattle.ab_msg.specs.Packets.{Packet}
use Rattle.ab_loop.specs.Edges.{capped}

pub record Toy : Type 0 where
  pub stamp : ℕ
  pub votes : ℕ

abbrev pub asks : List Packet
asks =
    record { to = Replica 0; bytes = 7 ∷ [] } ∷ record { to = Replica 1; bytes = 7 ∷ [] } ∷ record { to = Replica 2; bytes = 7 ∷ [] }
    ∷ record { to = Replica 3; bytes = 7 ∷ [] } ∷ []

abbrev pub toy_commit : ℕ → ℕ → Option Commit
toy_commit stamp votes = if votes == 4 then Some (record { stamp = stamp; instance = 1; n = 1; reply = record { items = [] } }) else None

abbrev pub toy_step : Toy → NodeEvent → Reaction Toy
toy_step c (invoke command) = record { after = record { stamp = capped (c.stamp + 1); votes = 0 }; sends = asks; commit = None; spent = false; opened = true }
toy_step c (message bytes) =
    record { after = record { stamp = c.stamp; votes = capped (c.votes + 1) }; sends = []; commit = toy_commit c.stamp (capped (c.votes + 1)); spent = false; opened = true }
toy_step c timeout = record { after = c; sends = []; commit = None; spent = false; opened = true }

abbrev pub toy : Rules Toy
toy = record { step = toy_step; timer = λ c. None }
