use Rattle.ab_premise.proofs.Lines.{premise_told}
use Rattle.ab_premise.proofs.laws.premise_is_told.Goals as goal

pub returns : goal.returns
returns g c = λ k proto opens all inputs forged collided honest first free earliest line. premise_told k proto opens all inputs forged collided honest first free earliest line
