use Rattle.ab_storm.proofs.StormLemmas.{one_end}
use Rattle.ab_storm.proofs.ends.storms_end_once.Goals as goal

pub returns : goal.returns
returns g c = λ k one other to_one to_other. one_end g.P.Protocol.proto k one other to_one to_other
