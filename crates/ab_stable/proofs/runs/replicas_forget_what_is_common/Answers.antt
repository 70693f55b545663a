use Rattle.ab_stable.proofs.Reasons.{reasoned_by_acts}
use Rattle.ab_stable.proofs.runs.replicas_forget_what_is_common.Goals as goal

pub returns : goal.returns
returns g c = reasoned_by_acts g.S.Service.machine
