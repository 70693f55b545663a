use Rattle.ab_run.proofs.AskingLemmas.{cert_holds, told_is_full}
use Rattle.ab_run.proofs.ordered.certificates_commit.Goals as goal

pub returns : goal.returns
returns c = record {
  sends = λ f m votes signed z is. cert_holds f m votes signed z is;
  commits = λ x d stamp z told sent are full. told_is_full x d stamp z told sent are full;
}
