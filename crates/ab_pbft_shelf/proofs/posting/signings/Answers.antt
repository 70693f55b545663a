use Rattle.std.proofs.Common.{rules, tests, sym, ◌∙◌}
use Rattle.std.proofs.lemmas.Iterator.{YieldsList-from_slice}
use Rattle.std.proofs.lemmas.Iterator.Consumers.{count_from_yields_List, YieldsList-at, YieldsList-from_filter}
use Rattle.std.proofs.lemmas.List.Sums.{length-filter}
use Rattle.ab_pbft_shelf.specs.Posts.{is_signed}
use Rattle.ab_pbft_shelf.proofs.PostLemmas.{signings_as}
use Rattle.ab_pbft_shelf.proofs.posting.signings.Goals as goal

pub returns : goal.returns
returns c by =
    let deeds = c.args.deeds.now in
    count_from_yields_List c.filter.result c.count.result c.count.ensures.ran
    (YieldsList-from_filter _ is_signed (YieldsList-at c.filter.ensures.source (YieldsList-from_slice deeds (cc))) c.filter.ensures.closure (λ x b q k. search (rules, tests)))
    ∙ (length-filter is_signed deeds ∙ sym (signings_as by deeds))
