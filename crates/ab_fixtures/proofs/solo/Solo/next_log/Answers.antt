use Rattle.std.proofs.Common.{◌≡◌, Some, ◌++◌, true, arith, ap, ◌∙◌, length}
use Rattle.ab_fixtures.specs.SoloRules.{Placed, behind_with}
use Rattle.ab_fixtures.proofs.SoloLemmas.{added}
use Rattle.ab_fixtures.proofs.solo.Solo.next_log.Goals as goal

pub returns : goal.returns
returns c =
    let at = c.args.self.now.at in
    let m = c.args.m in
    let limit : c.from.result ≡ at.k = first_of (omega (arith, c.from.ensures, ap (λ (v : Placed). v.at.k) c.self.view_is), cc (c.from.ensures, ap (λ (v : Placed). v.at.k) c.self.view_is)) in
    let size = c.len-2.ensures.len ∙ ap (λ (v : Placed). length v.at.entered) c.self.view_is in
    added at.entered at.behind c.in_ok-log.log c.add.new.log m c.from.result c.len.result c.len-2.result c.in_ok-log.ensures c.len.ensures.len size c.in_ok-add.ensures
    ∙ ap (λ n. at.entered ++ behind_with true n at.entered at.behind (Some m)) limit
