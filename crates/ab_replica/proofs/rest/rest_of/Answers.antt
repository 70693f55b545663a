use Rattle.std.proofs.Common.{◌≡◌, ◌+◌, ◌-◌, ◌∷◌, [], ◌++◌, List, Some, slice_get, sym, ap, subst, ◌∙◌, arith}
use Rattle.ab_hist.specs.declared.request.Request.{Request}
use Rattle.ab_hist.specs.Histories.{CanAdd}
use Rattle.ab_replica.proofs.RestLemmas.{behind_more, behind_next}
use Rattle.ab_replica.proofs.rest.rest_of.Goals as goal

pub push-requires : goal.push-requires
push-requires c =
    let h = c.args.log.now in
    let n = c.args.n in
    let k = c.entries.k in
    let place : n + k + 1 - 1 ≡ n + k = omega arith in
    let there : slice_get h (n + k) ≡ Some c.copy.result = ap (slice_get h) (sym place) ∙ c.at.ensures ∙ ap (λ m. Some m) (sym c.copy.ensures) in
    subst (λ (own : List Request). CanAdd own c.copy.result) (sym c.entries.invariant) (behind_next h n k c.copy.result there c.len.ensures.history (omega (arith, c.len.ensures.len, c.len.ensures.few)))

pub entries-preserved : goal.entries-preserved
entries-preserved c =
    let h = c.args.log.now in
    let n = c.args.n in
    let k = c.entries.k in
    let place : n + k + 1 - 1 ≡ n + k = omega arith in
    let there : slice_get h (n + k) ≡ Some c.copy.result = ap (slice_get h) (sym place) ∙ c.at.ensures ∙ ap (λ m. Some m) (sym c.copy.ensures) in
    c.in_ok-push.ensures ∙ ap (λ (own : List Request). own ++ c.copy.result ∷ []) c.entries.invariant ∙ sym (behind_more h n k c.copy.result there)
