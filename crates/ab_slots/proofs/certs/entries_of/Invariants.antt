use Rattle.std.proofs.Common.{◌≡◌, map, take}
use Rattle.ab_msg.specs.Slots.{slot_digest}
use Rattle.ab_slots.proofs.certs.entries_of.Given as goal

abbrev pub invariant-certs : goal.invariant-certs
invariant-certs l = l.entries.items ≡ map (λ c. (c.at, slot_digest c.value)) (take l.cert-index l.certs)
