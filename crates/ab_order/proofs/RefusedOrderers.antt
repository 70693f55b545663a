-- An orderer that does nothing keeps to what an orderer has to, and those that differ from it don't.
use Rattle.std.proofs.Common.{◌≡◌, ℕ, true, false, None, [], ◌∷◌, refl}
use Rattle.ab_num.specs.declared.party.Party.TheVariants.{Replica, Client}
use Rattle.ab_num.proofs.Lists.{Contains-head, Contains-none}
use Rattle.ab_msg.specs.declared.content.Content.TheVariants.{Panic}
use Rattle.ab_msg.specs.declared.message.Msg.TheVariants as msg
use Rattle.ab_msg.specs.Pens.{no_pen}
use Rattle.ab_abs.specs.Messages.{Call, took, timed}
use Rattle.ab_order.specs.Owned.{KeepsOwn}
use Rattle.ab_order.specs.WrongOrderers.{idle_rules, idle_orders, forging, relaying, restless}

-- a PANIC tells an orderer nothing
abbrev panic_call : Call
panic_call = took (msg.Panic (Panic (Client 0) 1) [])

pub idle_keeps : KeepsOwn idle_orders idle_rules
idle_keeps = record {
  states = λ pen p call o s f r sent has. absurd (Contains-none o sent);
  carries = λ pen p call o f r sent. absurd (Contains-none o sent);
  ignores = λ pen p call nothing. (refl, refl, refl);
}

pub no_forging : ¬ KeepsOwn forging idle_rules
no_forging law = let is = law.states no_pen 0 timed _ _ 1 0 (Contains-head _ []) (Contains-head _ []) in let e : false ≡ true = is.orders in cc (e)

pub no_relaying : ¬ KeepsOwn relaying idle_rules
no_relaying law = let w = law.carries no_pen 0 timed _ 1 0 (Contains-head _ []) in Contains-none w.0 w.1

pub no_restless : ¬ KeepsOwn restless idle_rules
no_restless law = let w = law.ignores no_pen 0 panic_call refl in let e = w.0 in cc (e)
