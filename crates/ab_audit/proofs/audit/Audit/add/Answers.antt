use Rattle.std.proofs.Common.{ap, sym, ◌∙◌}
use Rattle.std.specs.List.{flat_map}
use Rattle.ab_num.specs.declared.party.Party.TheVariants.{Client}
use Rattle.ab_wire.specs.Views.{message}
use Rattle.ab_audit.specs.Audits.{news_of, told}
use Rattle.ab_audit.specs.Kept.{keep_all}
use Rattle.ab_audit.proofs.NewsLemmas.{news_told}
use Rattle.ab_audit.proofs.audit.Audit.add.Goals as goal

pub returns-in_ok-keep-in-Ok-clause-ok : goal.returns-in_ok-keep-in-Ok-clause-ok
returns-in_ok-keep-in-Ok-clause-ok c =
    let a = c.args.self.now in
    let n = c.args.number in
    c.in_ok-keep-in-Ok.ensures.ok
    ∙ ap (λ ns. record a { kept = keep_all a.kept ns }) (c.in_ok-news-in-Ok.ensures ∙ ap (flat_map (news_of a n)) c.checks_in-checks.ensures)
    ∙ ap (λ k. record a { kept = k }) (news_told a n c.self.inside.cluster.f (Client 0) (message c.in-Ok.m))
    ∙ ap (told a n) (sym c.in-Ok.ensures.exact)
