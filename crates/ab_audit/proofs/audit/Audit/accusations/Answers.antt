use Rattle.std.proofs.Common.{rules, subst, ◌∙◌}
use Rattle.std.specs.List.Sorted.{IsPermutation}
use Rattle.std.proofs.lemmas.List.Sorted.{IsNonDecreasingBy-from_sort, answers_always}
use Rattle.ab_audit.specs.Accusations.{rank}
use Rattle.ab_audit.specs.Kept.{accused_in}
use Rattle.ab_audit.proofs.KeptLemmas.{subjects_kept}
use Rattle.ab_audit.proofs.audit.Audit.accusations.Goals as goal

pub returns : goal.returns
returns c = record {
  each = subst (λ l. IsPermutation l c.sort_unstable_by_key.new.self.items) (c.in_ok-listed.ensures ∙ subjects_kept c.self.inside.others.entries ∙ (λ j. accused_in (c.self.view_is j).kept)) c.sort_unstable_by_key.ensures.permutation;
  rising = IsNonDecreasingBy-from_sort rank _ (c.sort_unstable_by_key.ensures.sorted rank (answers_always _ _ _ (λ f a r g h. search rules)));
}
