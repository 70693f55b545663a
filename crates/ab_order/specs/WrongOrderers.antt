-- An orderer that does nothing, and orderers that are no orderers: each is that one but for one row.
use Rattle.std.specs.Prelude.{ℕ, suc, None, [], ◌∷◌}
use Rattle.ab_num.specs.declared.party.Party.TheVariants.{Replica, Client}
use Rattle.ab_msg.specs.declared.content.Content.TheVariants.{Panic}
use Rattle.ab_msg.specs.declared.message.Msg.TheVariants as msg
use Rattle.ab_abs.specs.SmallActs.{small}
use Rattle.ab_order.specs.Inputs.{Reading}
use Rattle.ab_order.specs.Orderers.{Ordering}
use Rattle.ab_order.specs.Protos.{OrderProto}

-- its value is a number, which it never looks at
abbrev pub idle_rules : Ordering ℕ Reading
idle_rules = record {
  begin = λ k f i me h. 0;
  after = λ p e. p;
  makes = λ p e. [];
  instance = λ p. 1;
  replica = λ p. 0;
  base = λ p. None;
  first = λ p. None;
  ordered = λ p. [];
}

abbrev pub idle_orders : OrderProto ℕ ℕ
idle_orders = record {
  begin = λ c i r e. 0;
  after = λ pen p call. p;
  sends = λ pen p call. [];
  signs = λ p call. [];
  cluster = λ p. small.cluster;
  instance = λ p. 1;
  view = λ p. p;
}

-- it speaks for a client
abbrev pub forging : OrderProto ℕ ℕ
forging = record idle_orders { sends = λ pen p call. record { to = Replica 1; msg = msg.Panic (Panic (Client 0) 1) [] } ∷ [] }

-- it sends a message without a word of its own
abbrev pub relaying : OrderProto ℕ ℕ
relaying = record idle_orders { sends = λ pen p call. record { to = Replica 1; msg = msg.Init [] } ∷ [] }

-- each call changes it
abbrev pub restless : OrderProto ℕ ℕ
restless = record idle_orders { after = λ pen p call. suc p }
