-- A text that sets up a party.
use Rattle.std.proofs.Common.{◌≡◌, ℕ, List, Result, Ok, IfOk, IfErr, sym, subst}
use Rattle.ab_num.specs.declared.party.Party.{Party}
use Rattle.ab_num.specs.declared.party.Party.TheVariants.{Replica}
use Rattle.ab_num.specs.declared.plan.ServiceName.{ServiceName}
use Rattle.ab_num.proofs.Results.{if_ok_map, if_err_map}
use Rattle.ab_text.specs.Lines.{lines_of}
use Rattle.ab_key_text.specs.Keys.{PartyKeys}
use Rattle.ab_key_text.specs.Nodes.{node_in, node_of}
use Rattle.ab_loop.specs.Edges.{Crash}
use Rattle.ab_loop.specs.declared.serving.Served.{Served}
use Rattle.ab_replay.specs.Replays.{proto_of}
use Rattle.ab_node.specs.declared.stop.Stop.{Stop}
use Rattle.ab_node.specs.declared.stop.Stop.TheVariants as stop
use Rattle.ab_node.specs.Nodes.{IsServed, IsUntouched, NodeCall, PartyEnds, PartyServed, PartyStopped, ReplicaCause, ReplicaServed, TextCause, TextStopped, no_crash}

-- a replica that is served with the service of its keys
module _ (x : NodeCall) (crash : Crash) (k : PartyKeys) (commands : List (List ℕ)) (r : ℕ) (me : k.me ≡ Replica r) (v : ServiceName) (service : k.service ≡ v) (result : Result Served Stop) where
  pub replica_serves : IfOk result (ReplicaServed (proto_of v) k r commands x crash) → IfOk result (PartyServed k.me k commands x crash)
  replica_serves is =
      subst (λ (p : Party). IfOk result (PartyServed p k commands x crash)) (sym me)
      (subst (λ (u : ServiceName). IfOk result (ReplicaServed (proto_of u) k r commands x crash)) (sym service) is)

  pub replica_stops : IfErr result (ReplicaCause (proto_of v) k r commands x crash) → IfErr result (PartyEnds k.me k commands x crash)
  replica_stops is =
      subst (λ (p : Party). IfErr result (PartyEnds p k commands x crash)) (sym me)
      (subst (λ (u : ServiceName). IfErr result (ReplicaCause (proto_of u) k r commands x crash)) (sym service) is)

-- the party that a text sets up
module _ (text : List ℕ) (x : NodeCall) (k : PartyKeys) (commands : List (List ℕ)) (reads : node_in (lines_of text) ≡ Ok (node_of k commands)) where
  serves : (served : Served) → PartyServed k.me k commands x no_crash served → IsServed text x no_crash served
  serves served run = record { node = node_of k commands; reads = reads; run = run }

  stops : (s : Stop) → PartyEnds k.me k commands x no_crash s → TextStopped s text x
  stops stop.Read cause = absurd cause
  stops stop.TooLong cause = absurd cause
  stops (stop.Refused q) cause = absurd cause
  stops (stop.Serving why) cause = record { node = node_of k commands; reads = reads; fault = cause }
  stops stop.Disk cause = absurd cause
  stops (stop.Journal n) cause = absurd cause
  stops stop.OutOfMemory still = still

  pub text_serves : (result : Result Served Stop) → IfOk result (PartyServed k.me k commands x no_crash) → IfOk result (IsServed text x no_crash)
  text_serves result is = if_ok_map result serves is

  pub text_stops : (result : Result Served Stop) → IfErr result (PartyEnds k.me k commands x no_crash) → IfErr result (λ s. TextStopped s text x)
  text_stops result is = if_err_map result stops is

-- a text that sets up none
pub no_party : (s : Stop) (text : List ℕ) (x : NodeCall) → TextCause s text → IsUntouched x → TextStopped s text x
no_party stop.Read text x cause still = absurd cause
no_party stop.TooLong text x cause still = absurd cause
no_party (stop.Refused r) text x refused still = (refused, still)
no_party (stop.Serving why) text x cause still = absurd cause
no_party stop.Disk text x cause still = absurd cause
no_party (stop.Journal n) text x cause still = absurd cause
no_party stop.OutOfMemory text x cause still = still
