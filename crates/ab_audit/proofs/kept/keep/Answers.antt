use Rattle.std.proofs.Common.{ap, sym, ◌∙◌}
use Rattle.indexmap.proofs.CallerLemmas.{insert_entry-new}
use Rattle.ab_audit.specs.Kept.{is_known, kept_in}
use Rattle.ab_audit.proofs.EqLemmas.{derived}
use Rattle.ab_audit.proofs.KeptLemmas.{kept_first, kept_other}
use Rattle.ab_audit.proofs.kept.keep.Goals as goal

pub returns-in-Ok-clause-kept : goal.returns-in-Ok-clause-kept
returns-in-Ok-clause-kept c =
    let first = c.args.first.now.entries in
    let others = c.args.others.now.entries in
    kept_other first others c.args.about c.args.found
    (ap (is_known (kept_in first others) c.args.about) (sym c.as_slice.ensures.value) ∙ sym c.is_known.ensures ∙ c.if-is_known.false)
    c.contains_key.result c.insert.new.self.entries c.if-contains_key.true c.contains_key.ensures
    (λ none. c.in-Ok.ensures.entries ∙ insert_entry-new derived c.args.others.now c.args.about c.args.found none)

pub returns-in-Ok-insert-clause-kept : goal.returns-in-Ok-insert-clause-kept
returns-in-Ok-insert-clause-kept c =
    let first = c.args.first.now.entries in
    let others = c.args.others.now.entries in
    kept_first first others c.args.about c.args.found
    (ap (is_known (kept_in first others) c.args.about) (sym c.as_slice.ensures.value) ∙ sym c.is_known.ensures ∙ c.if-is_known.false)
    c.contains_key.result c.insert-else-contains_key.new.self.entries c.if-contains_key.false c.contains_key.ensures
    (λ none. c.in-Ok-insert.ensures.entries ∙ insert_entry-new derived c.args.first.now c.args.about c.args.found none)
