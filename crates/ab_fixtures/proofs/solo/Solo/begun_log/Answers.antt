use Rattle.std.proofs.Common.{◌≡◌, List, ◌++◌, ap, ◌∙◌, subst}
use Rattle.std.specs.Prelude.{IfOk}
use Rattle.ab_hist.specs.declared.request.Request.{Request}
use Rattle.ab_fixtures.specs.SoloRules.{Placed}
use Rattle.ab_fixtures.proofs.SoloLemmas.{not_begun}
use Rattle.ab_fixtures.proofs.solo.Solo.begun_log.Goals as goal

pub returns-else-self : goal.returns-else-self
returns-else-self c =
    let q = c.self.inside in
    let is = not_begun q.begun q.entered q.log c.if-self.false c.self.invariant ∙ ap (λ (v : Placed). v.at.entered ++ v.at.behind) c.self.view_is in
    subst (λ (l : List Request). IfOk c.copy-else-self.result (λ log. log ≡ l)) is c.copy-else-self.ensures
