use Rattle.std.proofs.Common.{rules, tests, ◌∙◌}
use Rattle.std.proofs.lemmas.Iterator.{YieldsList-from_slice}
use Rattle.std.proofs.lemmas.Iterator.Consumers.{count_from_yields_List, YieldsList-at, YieldsList-from_filter}
use Rattle.std.proofs.lemmas.List.Sums.{length-filter}
use Rattle.ab_pbft_shelf.specs.Signing.{is_leaving}
use Rattle.ab_pbft.proofs.pbft.leavings.Goals as goal

pub returns : goal.returns
returns c =
    let deeds = c.args.deeds.now in
    count_from_yields_List c.filter.result c.count.result c.count.ensures.ran
    (YieldsList-from_filter _ is_leaving (YieldsList-at c.filter.ensures.source (YieldsList-from_slice deeds (cc))) c.filter.ensures.closure (λ x b q k. search (rules, tests)))
    ∙ length-filter is_leaving deeds
