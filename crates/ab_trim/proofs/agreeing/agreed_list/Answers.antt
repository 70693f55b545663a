use Rattle.std.proofs.Common.{ap, sym, ◌∙◌}
use Rattle.std.specs.Option.{option_map}
use Rattle.ab_trim.specs.Points.{lists_in}
use Rattle.ab_trim.proofs.FoundLemmas.{some_least, holder_within}
use Rattle.ab_trim.proofs.agreeing.agreed_list.Goals as goal

pub unreachable-requires : goal.unreachable-requires
unreachable-requires c =
    let p = c.in-Some.point in
    some_least c.args.q c.args.lists.now p.0 p.1 c.in-Some.ensures.some c.requires (sym c.least_holder.ensures ∙ ap (option_map (λ t. t.now.list)) c.in_default-least_holder.is)

pub front-requires : goal.front-requires
front-requires c =
    let p = c.in-Some.point in
    holder_within p.0 p.1 (lists_in c.args.lists.now) c.in-Some-least_holder.holder.now.list (sym (ap (option_map (λ t. t.now.list)) c.in-Some-least_holder.is) ∙ c.least_holder.ensures)
