use Rattle.std.proofs.Common.{Some, None, sym, ap, ◌∙◌}
use Rattle.std.specs.Option.{option_map}
use Rattle.ab_hist.specs.Trimmed.{forget}
use Rattle.ab_stable.specs.Offers.{known_by}
use Rattle.ab_stable.proofs.BasedLemmas.{known_extended}
use Rattle.ab_stable.proofs.certificate.based_on.Goals as goal

pub returns-in-Some-2 : goal.returns-in-Some-2
returns-in-Some-2 c =
    let own = c.args.own.now in
    let t = c.args.t.now.list in
    let found = c.place_by.ensures.known ∙ ap (option_map (λ n. forget n t)) c.in-Some.is in
    sym (ap (known_by own) found ∙ known_extended own t c.in-Some.n (Some c.in-Some-2.base) c.in_ok-base.ensures.front (sym c.in_ok-base.ensures.value ∙ c.in-Some-2.is))

pub returns-in-None : goal.returns-in-None
returns-in-None c =
    let own = c.args.own.now in
    let t = c.args.t.now.list in
    let found = c.place_by.ensures.known ∙ ap (option_map (λ n. forget n t)) c.in-Some.is in
    sym (ap (known_by own) found ∙ known_extended own t c.in-Some.n None c.in_ok-base.ensures.front (sym c.in_ok-base.ensures.value ∙ c.in-None.is))
