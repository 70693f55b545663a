-- A certificate of a replica, as VIEW-CHANGEs offer it.
use Rattle.ab_msg.specs.declared.value.Value.{Value}
use Rattle.ab_lock.specs.Choosing.{Offer}
use Rattle.ab_slots.specs.declared.choosing.Offer.{Offer as Ref}

abbrev pub offer_of : Ref → Offer Value
offer_of o = record { by = o.by; cert = o.cert.now }
