-- The events of a storm, kept.
use Rattle.std.specs.Prelude.{◌≡◌, List, All, Ok, length}
use Rattle.ab_num.specs.declared.cluster.Cluster.{Cluster}
use Rattle.ab_text.specs.declared.event.Event.{Event}
use Rattle.ab_text.specs.EventLines.{IsEvent}
use Rattle.ab_words.specs.Commands.{StormCommand}
use Rattle.ab_abs.specs.Ensembles.{Proto}
use Rattle.ab_party.specs.Clusters.{IsSized}
use Rattle.ab_world.specs.Worlds.{World}
use Rattle.ab_storm.specs.Runs.{events_in, run_in}

-- these are the events that the storm draws that is asked for, and they lead to this world. They are as many as it asks for, and each has
-- a line in a schedule
pub record Draws {P : Type 0} (proto : Proto P) (k : StormCommand) (events : List Event) (end : World P) : Type 0 where
  pub cluster : Cluster
  pub sized : IsSized cluster k.f k.clients k.plan 0
  pub drawn : events ≡ events_in proto cluster k
  pub all : length events ≡ k.events
  pub runs : run_in proto cluster k ≡ Ok end
  pub lines : All IsEvent events
