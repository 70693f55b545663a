use Rattle.ab_stable.proofs.MarkedActs.{certified_by_all, certified_in_chain}
use Rattle.ab_stable.proofs.acts.stable_beginnings_are_certified.Goals as goal

pub returns : goal.returns
returns g c = record { by_all = certified_by_all g.S.Service.machine; in_chain = certified_in_chain g.S.Service.machine }
