use Rattle.std.proofs.Common.{refl, ap, ◌∙◌}
use Rattle.ab_num.specs.Places.{limit_of}
use Rattle.ab_promises.proofs.kinds.replicas_begin_and_stop.Goals as goal

pub returns : goal.returns
returns g c =
    let o = g.O.Orderer in
    let laws = g.met.O.Orderer in
    record {
      quorum = record { begins = λ c i r e. refl; stops = λ p. refl; stays = λ p. refl };
      zlight = record { begins = λ c i r e. refl; stops = λ p. refl; stays = λ p. refl };
      chain = record { begins = λ c i r e. refl; stops = λ p. refl; stays = λ p. refl };
      zcert = record { begins = λ c i r e. refl; stops = λ p. refl; stays = λ p. refl };
      backup = record {
        begins = λ c i r e. ap o.rules.ordered (laws.obeys.begins c i r e) ∙ laws.orderly.empty (o.rules.begin (limit_of c.plan i) c.f i r e.base) (laws.orderly.begun (limit_of c.plan i) c.f i r e.base).0;
        rests = λ p. refl;
      };
    }
