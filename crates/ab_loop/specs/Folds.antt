-- What a core does over a list of events.
use Rattle.std.specs.Prelude.{◌≡◌, ℕ, ◌+◌, List, [], ◌∷◌, ◌++◌, length, if◌then◌else◌}
use Rattle.std.specs.List.{cons_option}
use Rattle.ab_loop.specs.declared.party_core.Commit.{Commit}
use Rattle.ab_loop.specs.Settings.{NodeSetting}
use Rattle.ab_loop.specs.Cores.{NodeEvent, Rules}
use Rattle.ab_msg.specs.Packets.{Packet}
use Rattle.ab_loop.specs.Edges.{capped, bodies_in, handed_in}
use Rattle.ab_loop.specs.Nodes.{Out, datagrams_in, kept_of, parcels_of}

-- where these events lead the core, the first of them first
abbrev pub core_after : {C : Type 0} → Rules C → C → List NodeEvent → C
core_after rules core [] = core
core_after rules core (e ∷ es) = core_after rules (rules.step core e).after es

-- what it sends in them, in order
abbrev pub sends_in : {C : Type 0} → Rules C → C → List NodeEvent → List Packet
sends_in rules core [] = []
sends_in rules core (e ∷ es) = (rules.step core e).sends ++ sends_in rules (rules.step core e).after es

-- what is committed in them, in order
abbrev pub commits_in : {C : Type 0} → Rules C → C → List NodeEvent → List Commit
commits_in rules core [] = []
commits_in rules core (e ∷ es) = cons_option (rules.step core e).commit (commits_in rules (rules.step core e).after es)

-- how many of them are spent
abbrev pub spent_in : {C : Type 0} → Rules C → C → List NodeEvent → ℕ
spent_in rules core [] = 0
spent_in rules core (e ∷ es) = (if (rules.step core e).spent then 1 else 0) + spent_in rules (rules.step core e).after es

-- what is kept of them
abbrev pub kept_in : {C : Type 0} → Rules C → C → List NodeEvent → List (List ℕ)
kept_in rules core [] = []
kept_in rules core (e ∷ es) = kept_of (rules.step core e).opened e ++ kept_in rules (rules.step core e).after es

-- A node that began with this core and with these events of earlier runs is where all its events lead the core. It keeps its new events,
-- which stand behind those, but for messages that didn't open. Its datagrams are those of what the core sends in the new events, its
-- messages numbered from 1 over all runs. Its numbers count all events, the datagrams, and the spent events.
pub record IsOfCore {C : Type 0} (rules : Rules C) (s : NodeSetting) (start : C) (past : List NodeEvent) (o : Out C) : Type 0 where
  pub new : List NodeEvent
  pub all : o.events ≡ past ++ new
  pub core : o.node.core ≡ core_after rules start o.events
  pub datagrams : handed_in o.effects ≡ datagrams_in (parcels_of s (capped (length (sends_in rules start past))) (sends_in rules (core_after rules start past) new))
  pub kept : bodies_in o.effects ≡ kept_in rules (core_after rules start past) new
  pub events : o.node.events ≡ capped (length o.events)
  pub sent : o.node.sent ≡ capped (length (handed_in o.effects))
  pub spent : o.node.spent ≡ capped (spent_in rules start o.events)
