-- A message that doesn't open changes nothing.
use Rattle.std.proofs.Common.{◌≡◌, ℕ, [], false, Option, None, Some, is_some, refl}
use Rattle.std.specs.Option.{option_map}
use Rattle.ab_abs.specs.Ensembles.{Proto}
use Rattle.ab_abs.specs.Messages.{took}
use Rattle.ab_run.specs.Local.{cue_message}
use Rattle.ab_loop.specs.Cores.{NodeEvent, invoke, message, timeout, Reaction}
use Rattle.ab_loop.specs.Lives.{AreIdle}
use Rattle.ab_node.specs.Keys.{opened}
use Rattle.ab_node.specs.Replicas.{ReplicaMember, replica_may_take, replica_rules, replica_step, with_opened}
use Rattle.ab_node.specs.Clients.{ClientMember, client_may_take, client_rules, client_step}

-- such an event leaves this core, sends nothing and commits nothing
record IsIdle {C : Type 0} (c : C) (r : Reaction C) : Type 0 where
  after : r.after ≡ c
  sends : r.sends ≡ []
  commit : r.commit ≡ None

module _ {P : Type 0} (proto : Proto P) where
  replica_idle : (m : ReplicaMember P) (e : NodeEvent) → (replica_step proto m e).opened ≡ false → IsIdle m (replica_step proto m e)
  replica_idle m (invoke command) is = cc
  replica_idle m (message bytes) is = go (opened m.credentials bytes) is where
    go : (o : Option _) → is_some o ≡ false → IsIdle m (with_opened (is_some o) (replica_may_take proto m (option_map took o)))
    go None none = record { after = refl; sends = refl; commit = refl }
    go (Some x) none = cc
  replica_idle m timeout is = cc

  pub replicas_idle : (counted : P → Option ℕ) (start : ReplicaMember P) → AreIdle (replica_rules proto counted) start
  replicas_idle counted start = record {
    after = λ m e comes is. (replica_idle m e is).after;
    sends = λ m e comes is. (replica_idle m e is).sends;
    commit = λ m e comes is. (replica_idle m e is).commit;
  }

client_idle : (m : ClientMember) (e : NodeEvent) → (client_step m e).opened ≡ false → IsIdle m (client_step m e)
client_idle m (invoke command) is = cc
client_idle m (message bytes) is = go (opened m.credentials bytes) is where
  go : (o : Option _) → is_some o ≡ false → IsIdle m (with_opened (is_some o) (client_may_take m (option_map cue_message o)))
  go None none = record { after = refl; sends = refl; commit = refl }
  go (Some x) none = cc
client_idle m timeout is = cc

pub clients_idle : (start : ClientMember) → AreIdle client_rules start
clients_idle start = record {
  after = λ m e comes is. (client_idle m e is).after;
  sends = λ m e comes is. (client_idle m e is).sends;
  commit = λ m e comes is. (client_idle m e is).commit;
}
