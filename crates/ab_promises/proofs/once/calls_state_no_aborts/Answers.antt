use Rattle.ab_promises.proofs.CallKinds.{quorum_aborts, quorum_prepares, zlight_aborts, zlight_prepares, chain_aborts, chain_prepares, zcert_aborts, zcert_prepares, backup_aborts}
use Rattle.ab_promises.proofs.once.calls_state_no_aborts.Goals as goal

pub returns : goal.returns
returns g c =
    let machine = g.S.Service.machine in
    record {
      quorum = quorum_aborts machine;
      quorum_prepares = quorum_prepares machine;
      zlight = zlight_aborts machine;
      zlight_prepares = zlight_prepares machine;
      chain = chain_aborts machine;
      chain_prepares = chain_prepares machine;
      zcert = zcert_aborts machine;
      zcert_prepares = zcert_prepares machine;
      backup = λ orders obeys. backup_aborts machine orders obeys;
    }
