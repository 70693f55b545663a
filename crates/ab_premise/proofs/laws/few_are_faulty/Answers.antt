use Rattle.ab_premise.proofs.Lines.{few_faulty}
use Rattle.ab_premise.proofs.laws.few_are_faulty.Goals as goal

pub returns : goal.returns
returns c = few_faulty
