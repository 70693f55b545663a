use Rattle.ab_audit.proofs.CorrectLemmas.{not_accused}
use Rattle.ab_audit.proofs.laws.correct_replicas_are_not_accused.Goals as goal

pub returns : goal.returns
returns c = not_accused
