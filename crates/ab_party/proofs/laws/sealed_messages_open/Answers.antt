use Rattle.std.proofs.Common.{}
use Rattle.ab_keys.specs.Rings.{ring_of}
use Rattle.ab_seal.specs.Sealing.{tagged}
use Rattle.ab_seal.proofs.DraftLemmas.{tagged-message}
use Rattle.ab_seal.proofs.SealedLemmas.{sealed-right}
use Rattle.ab_party.proofs.DeliveryLemmas.{spelled-open, taken-goes}
use Rattle.ab_party.proofs.laws.sealed_messages_open.Goals as goal

pub returns : goal.returns
returns c = λ f clients every plan seed a b judge m bounds a_in b_in exchange draft own is taken may whole tags carried.
    let ring = ring_of f clients plan seed a in
    spelled-open judge f clients every b (tagged ring b m) (tagged-message ring b m bounds a_in draft) taken may whole
    (sealed-right f clients plan seed a b judge (record { bounds = bounds; maker = a_in; taker = b_in; exchange = exchange; tags = tags }) m own (taken-goes f clients ring b m taken) is carried)
