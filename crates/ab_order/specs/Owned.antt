-- What an orderer sends and takes: its own statements, and nothing of what no rule takes.
use Rattle.std.specs.Prelude.{◌≡◌, ℕ, true, List, [], Contains}
use Rattle.ab_num.specs.declared.party.Party.TheVariants.{Replica}
use Rattle.ab_msg.specs.declared.content.Content.{Content}
use Rattle.ab_msg.specs.declared.message.Out.{Out}
use Rattle.ab_msg.specs.Claims.{maker_of, instance_of, fresh}
use Rattle.ab_msg.specs.Pens.{Pen}
use Rattle.ab_abs.specs.Messages.{Call}
use Rattle.ab_order.specs.Inputs.{Reading, other}
use Rattle.ab_order.specs.Orders.{is_ordering}
use Rattle.ab_order.specs.Orderers.{Ordering}
use Rattle.ab_order.specs.Protos.{OrderProto, told}

-- a statement of replica r in instance i by which replicas agree on an order: a PRE-PREPARE, PREPARE, COMMIT, VIEW-CHANGE or NEW-VIEW
pub record IsOrderOf (i r : ℕ) (s : Content) : Type 0 where
  pub maker : maker_of s ≡ Replica r
  pub instance : instance_of s ≡ i
  pub orders : is_ordering s ≡ true

module _ {P Q : Type 0} (orders : OrderProto P Q) (rules : Ordering Q Reading) where
  pub record KeepsOwn : Type 0 where
    -- what it states in what it sends is its own, and each message that it sends states something
    pub states : (pen : Pen) (p : P) (call : Call) (o : Out) (s : Content) (f r : ℕ) → Contains (orders.sends pen p call) o → Contains (fresh f (Replica r) o.msg) s
        → IsOrderOf (rules.instance (orders.view p)) (rules.replica (orders.view p)) s
    pub carries : (pen : Pen) (p : P) (call : Call) (o : Out) (f r : ℕ) → Contains (orders.sends pen p call) o → (s : Content) × Contains (fresh f (Replica r) o.msg) s
    -- a call that tells it nothing changes nothing, sends nothing and signs nothing
    pub ignores : (pen : Pen) (p : P) (call : Call) → told orders p call ≡ other → (orders.after pen p call ≡ p) × (orders.sends pen p call ≡ []) × (orders.signs p call ≡ [])
