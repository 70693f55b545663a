use Rattle.ab_storm.proofs.StormLemmas.{refused_for_limit}
use Rattle.ab_storm.proofs.ends.storms_are_not_refused.Goals as goal

pub returns : goal.returns
returns g c = λ k n fault few to. refused_for_limit g.P.Protocol.proto k n fault few to
