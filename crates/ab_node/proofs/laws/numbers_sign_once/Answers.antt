use Rattle.std.proofs.Common.{ap}
use Rattle.ab_loop.specs.Lives.{kept_by}
use Rattle.ab_node.specs.Locality.{calls_in}
use Rattle.ab_node.proofs.NumberLemmas.{all_numbered}
use Rattle.ab_node.proofs.laws.numbers_sign_once.Goals as goal

pub returns : goal.returns
returns g c = λ k s m runs starts life. record {
  left = c.stopped_members_are_one.ensures.run k g.P.Protocol.proto g.P.Protocol.counted s m runs starts life;
  numbered = all_numbered k g.P.Protocol.proto m.site.me g.met.P.Protocol.formed m.site.rep (calls_in m.credentials (kept_by runs)) (ap (λ x. x.used) starts.first) (ap (λ x. x.abort) starts.first);
}
