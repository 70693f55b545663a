use Rattle.std.proofs.Common.{◌∙◌, sym, ap, ◌++◌, take}
use Rattle.ab_content.proofs.OwnLemmas.{goes_on, may-follow}
use Rattle.ab_content.proofs.history_ref.HistoryRef.put_into.Goals as goal

pub put-requires-clause-may : goal.put-requires-clause-may
put-requires-clause-may c = may-follow _ _ _ _ (ap (λ t. take c.entries.n c.entries.own ++ t) (sym c.in-Some.ensures.steps.0) ∙ c.entries.invariant.3) c.requires

pub entries-preserved : goal.entries-preserved
entries-preserved c =
    (tt, tt, c.in_ok-put.ensures.within, goes_on _ _ _ _ _ _ c.entries.invariant.3 c.in-Some.ensures.steps.0 c.in_ok-put.ensures.front)
