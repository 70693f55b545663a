use Rattle.ab_stable.proofs.SmallForgotten.{two_settled, one_brought}
use Rattle.ab_stable.proofs.examples.small_beginnings_are_forgotten.Goals as goal

pub returns : goal.returns
returns c = record { settled = two_settled; brought = one_brought }
