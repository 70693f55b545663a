use Rattle.std.proofs.Common.{rules, ◌==◌, not, sym, ◌∙◌}
use Rattle.std.proofs.lemmas.Fn.{filter_same}
use Rattle.ab_slots.proofs.KeptLemmas.{without_filtered}
use Rattle.ab_slots.proofs.kept.remove.Goals as goal

pub returns : goal.returns
returns c =
    filter_same _ (λ u. not (u.change.by == c.args.by)) _ (λ x b f' k. search rules) c.args.kept.now.items _ c.retain.ensures.filtered
    ∙ sym (without_filtered c.args.by c.args.kept.now.items)
