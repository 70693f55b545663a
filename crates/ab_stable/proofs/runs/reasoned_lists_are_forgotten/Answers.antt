use Rattle.ab_stable.proofs.Reasons.{reasoned, reasons_stay}
use Rattle.ab_stable.proofs.runs.reasoned_lists_are_forgotten.Goals as goal

pub returns : goal.returns
returns c = record { each = λ seen common lists common_is is. reasoned seen common common_is lists is; later = reasons_stay }
