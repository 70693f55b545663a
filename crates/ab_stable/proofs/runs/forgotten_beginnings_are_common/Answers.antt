use Rattle.ab_stable.proofs.LaterInstances.{forgotten_begins, forgotten_entered}
use Rattle.ab_stable.proofs.runs.forgotten_beginnings_are_common.Goals as goal

pub returns : goal.returns
returns g c = record {
  certified = λ seen named faulty i front each entered was. forgotten_begins g.S.Service.machine seen named faulty each entered i front was;
  entered = λ seen named faulty i j front each entered was lt. forgotten_entered g.S.Service.machine seen named faulty each entered i j front was lt;
}
