use Rattle.ab_seal.proofs.SealedLemmas.{sealed-right}
use Rattle.ab_seal.proofs.sealed.sealed_messages_are_right.Goals as goal

pub returns : goal.returns
returns c = λ f clients plan seed a b judge m bounds a_in b_in exchange draft own goes is tags carried.
    sealed-right f clients plan seed a b judge (record { bounds = bounds; maker = a_in; taker = b_in; exchange = exchange; tags = tags }) m own goes is carried
