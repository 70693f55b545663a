use Rattle.std.proofs.Common.{◌≡◌, ◌<◌, true, sym, ap, ◌∙◌, subst}
use Rattle.ab_hist.specs.declared.request.Request.{Request}
use Rattle.ab_content.specs.Views.{trimmed}
use Rattle.ab_trim.specs.Known.{can_push_by}
use Rattle.ab_trim.specs.Logs.{log_of, push_log}
use Rattle.ab_trim.proofs.OwnedLemmas.{IsFrontOf, next_client, next_may, one_more}
use Rattle.ab_trim.proofs.owning.own_trimmed.Goals as goal

pub add-requires-clause-may : goal.add-requires-clause-may
add-requires-clause-may c =
    subst (λ (m : Request). can_push_by (log_of c.entries.own) m ≡ true) (sym c.own.ensures)
    (next_may c.entries.own (trimmed c.args.list.now) _ _ (subst (IsFrontOf c.entries.own (trimmed c.args.list.now)) c.in-Some.ensures.steps.0 c.entries.invariant.2) c.requires)

pub add-requires-clause-client : goal.add-requires-clause-client
add-requires-clause-client c =
    subst (λ (m : Request). m.client < 16) (sym c.own.ensures)
    (next_client c.entries.own (trimmed c.args.list.now) _ _ (subst (IsFrontOf c.entries.own (trimmed c.args.list.now)) c.in-Some.ensures.steps.0 c.entries.invariant.2) c.requires)

pub entries-preserved : goal.entries-preserved
entries-preserved c = (
  tt,
  tt,
  one_more c.entries.own _ (trimmed c.args.list.now) _ _ (subst (IsFrontOf c.entries.own (trimmed c.args.list.now)) c.in-Some.ensures.steps.0 c.entries.invariant.2)
      (c.in_ok-add.ensures ∙ ap (push_log c.entries.own) c.own.ensures),
)
