use Rattle.std.proofs.Common.{rules, tests, sym, ◌∙◌}
use Rattle.std.proofs.lemmas.Iterator.{YieldsList-from_map, YieldsList-from_slice}
use Rattle.std.proofs.lemmas.Iterator.Consumers.{nth_from_yields_List, YieldsList-at, YieldsList-from_filter}
use Rattle.std.proofs.lemmas.Iterator.Adapters.{option_map_id}
use Rattle.ab_msg.specs.Carried.{is_replica}
use Rattle.ab_premise.proofs.line.passing.Goals as goal

pub returns : goal.returns
returns c =
    sym (option_map_id c.nth.result)
    ∙ nth_from_yields_List c.nth.result c.nth.new.self c.args.f c.nth.ensures.ran
    (YieldsList-from_filter _ is_replica
    (YieldsList-at c.filter.ensures.source (YieldsList-from_map _ (λ e. e.0) (YieldsList-at c.map.ensures.source (YieldsList-from_slice c.args.faulty.now (cc))) c.map.ensures.closure (λ x r q k. search (rules, tests))))
    c.filter.ensures.closure (λ x b q k. search (rules, tests)))
