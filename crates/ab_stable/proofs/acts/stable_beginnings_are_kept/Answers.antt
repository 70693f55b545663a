use Rattle.ab_stable.proofs.MarkedActs.{later_by_all, later_in_chain}
use Rattle.ab_stable.proofs.acts.stable_beginnings_are_kept.Goals as goal

pub returns : goal.returns
returns g c = record {
  by_all = λ x is_mark mark a acts front. later_by_all g.S.Service.machine x is_mark mark acts a front;
  in_chain = λ x is_mark mark a acts front. later_in_chain g.S.Service.machine x is_mark mark acts a front;
}
