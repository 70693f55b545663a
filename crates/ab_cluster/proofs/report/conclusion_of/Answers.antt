use Rattle.std.proofs.Common.{map, refl, sym, ◌∙◌}
use Rattle.std.specs.List.{list_any}
use Rattle.ab_cluster.specs.Gathering.{outcome_of}
use Rattle.ab_cluster.proofs.ConclusionLemmas.{concluded, is_ill_one}
use Rattle.ab_cluster.proofs.ReportLemmas.{ill_among, unknown_among}
use Rattle.ab_cluster.proofs.report.conclusion_of.Goals as goal

pub returns-then-has_unknown : goal.returns-then-has_unknown
returns-then-has_unknown c =
    let all = c.args.all.now in
    let lost = sym (unknown_among all) ∙ sym c.has_unknown.ensures ∙ c.if-has_unknown.true in
    sym (concluded (map outcome_of all) _ (list_any is_ill_one (map outcome_of all)) lost refl)

pub returns-then-has_ill : goal.returns-then-has_ill
returns-then-has_ill c =
    let all = c.args.all.now in
    let lost = sym (unknown_among all) ∙ sym c.has_unknown.ensures ∙ c.if-has_unknown.false in
    let ill = sym (ill_among all) ∙ sym c.has_ill.ensures ∙ c.if-has_ill.true in
    sym (concluded (map outcome_of all) _ _ lost ill)

pub returns : goal.returns
returns c =
    let all = c.args.all.now in
    let lost = sym (unknown_among all) ∙ sym c.has_unknown.ensures ∙ c.if-has_unknown.false in
    let ill = sym (ill_among all) ∙ sym c.has_ill.ensures ∙ c.if-has_ill.false in
    sym (concluded (map outcome_of all) _ _ lost ill)
