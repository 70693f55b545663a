use Rattle.ab_promises.proofs.SmallCommits.{zlight_own, zlight_met, chain_own, chain_met}
use Rattle.ab_promises.proofs.examples.three_replicas_commit.Goals as goal

pub returns : goal.returns
returns g c =
    let machine = g.S.Service.machine in
    record {
      zlight = zlight_own machine;
      zlight_premises = λ apart slots. zlight_met machine apart slots;
      chain = chain_own machine;
      chain_premises = λ apart slots. chain_met machine apart slots;
    }
