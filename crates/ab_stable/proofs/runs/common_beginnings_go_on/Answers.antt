use Rattle.ab_stable.proofs.LaterInstances.{begins_later}
use Rattle.ab_stable.proofs.runs.common_beginnings_go_on.Goals as goal

pub returns : goal.returns
returns g c = λ seen named faulty i j front each entered one le begins. begins_later g.S.Service.machine seen named faulty each entered i front one begins j le
