use Rattle.std.proofs.Common.{◌≡◌, take}
use Rattle.ab_slots.proofs.certs.copy_certs.Given as goal

abbrev pub invariant-certs : goal.invariant-certs
invariant-certs l = l.copies.items ≡ take l.cert-index l.certs
