use Rattle.ab_stable.proofs.MarkedActs.{stays_by_all, stays_in_chain}
use Rattle.ab_stable.proofs.acts.stable_beginnings_stay.Goals as goal

pub returns : goal.returns
returns g c = record { by_all = stays_by_all g.S.Service.machine; in_chain = stays_in_chain g.S.Service.machine }
