use Rattle.std.proofs.Common.{◌++◌, ◌∷◌, [], List, sym, ◌∙◌, ap, Some, subst}
use Rattle.ab_hist.specs.declared.request.Request.{Request}
use Rattle.ab_hist.specs.Histories.{IsNext}
use Rattle.ab_trim.proofs.RestLemmas.{next_there, place_more}
use Rattle.ab_trim.proofs.rest.Rest.history.Goals as goal

pub add-requires-clause-next : goal.add-requires-clause-next
add-requires-clause-next c =
    let m : Request = c.copy.result in
    subst (λ (h : List Request). IsNext h m) (sym c.entries.invariant)
    (next_there c.args.self.now.requests c.entries.n m c.len-n-end.ensures.history (c.at.ensures ∙ ap Some (sym c.copy.ensures)))

pub entries-preserved : goal.entries-preserved
entries-preserved c =
    let m : Request = c.copy.result in
    c.in_ok-add.ensures
    ∙ ap (λ (h : List Request). h ++ m ∷ []) c.entries.invariant
    ∙ sym (place_more c.args.self.now.requests c.entries.n m (c.at.ensures ∙ ap Some (sym c.copy.ensures))).1
