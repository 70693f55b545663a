use Rattle.std.proofs.Common.{◌≡◌, ◌-◌, vec_len}
use Rattle.ab_msg.specs.declared.value.Value.{Value}
use Rattle.ab_lock.specs.Steps.{Cert, set_cert}
use Rattle.ab_slots.proofs.certs.pad.Given as goal

abbrev pub invariant-gap : goal.invariant-gap
invariant-gap l = (c : Cert Value) → set_cert l.t c l.certs.items ≡ set_cert l.t c l.initial.certs.items

abbrev pub decreases-gap : goal.decreases-gap
decreases-gap l = l.t - vec_len l.certs
