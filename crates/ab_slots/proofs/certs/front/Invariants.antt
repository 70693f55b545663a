use Rattle.std.proofs.Common.{◌≡◌, ◌-◌, ◌++◌}
use Rattle.ab_lock.specs.Steps.{cert_at}
use Rattle.ab_lock.specs.ViewChanges.{certs_from}
use Rattle.ab_slots.proofs.certs.front.Given as goal

abbrev pub invariant-slots : goal.invariant-slots
invariant-slots l = certs_from (cert_at l.certs) l.most 0 ≡ l.front.items ++ certs_from (cert_at l.certs) (l.most - l.t) l.t
