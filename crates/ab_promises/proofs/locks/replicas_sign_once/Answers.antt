use Rattle.ab_promises.proofs.SignsOnce.{one_place, one_prepare}
use Rattle.ab_promises.proofs.locks.replicas_sign_once.Goals as goal

pub returns : goal.returns
returns g c = record {
  steps = λ digest goes k steps v n a b x y lawful one two. one_place digest goes k steps v n a b x y lawful one two;
  made = λ digest may_stand goes k f faulty acts met r v n x y one two. one_prepare digest may_stand goes k f faulty acts met r v n x y one two;
}
