use Rattle.std.proofs.Common.{◌≡◌, ℕ, List, sym, ap, ◌∙◌, subst, rules}
use Rattle.std.specs.Prelude.{IfOk, string_bytes}
use Rattle.std.specs.Borrow.{Bor}
use Rattle.std.specs.Option.{option_map}
use Rattle.ab_cluster.specs.declared.spawner.Ended.{Ended}
use Rattle.ab_cluster.specs.Children.{ending}
use Rattle.ab_cluster.specs.Reports.{child_line}
use Rattle.ab_cluster.proofs.ReportLemmas.{none_grouped, status_grouped}
use Rattle.ab_cluster.proofs.report.child_string.Goals as goal

pub returns-in-None : goal.returns-in-None
returns-in-None c =
    let whole = none_grouped c.args.p ∙ ap (child_line c.args.p) (sym (ap (option_map (λ (e : Bor Ended). ending e.now)) c.in-None.is)) in
    subst (λ (t : List ℕ). IfOk c.format.result (λ s. string_bytes s ≡ t)) whole (search rules)

pub returns : goal.returns
returns c =
    let whole = status_grouped c.args.p (ending c.in-Some.ended.now) ∙ ap (child_line c.args.p) (sym (ap (option_map (λ (e : Bor Ended). ending e.now)) c.in-Some.is)) in
    subst (λ (t : List ℕ). IfOk c.format-in-Some.result (λ s. string_bytes s ≡ t)) whole (search rules)
