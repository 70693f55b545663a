use Rattle.std.proofs.Common.{Option, sym, ap, ◌∙◌}
use Rattle.ab_hist.specs.declared.request.Request.{Request}
use Rattle.ab_wire.specs.Views.{message}
use Rattle.ab_backup.specs.Events.{asked_of}
use Rattle.ab_backup.specs.Laws.{asked_says}
use Rattle.ab_fixtures.specs.SoloRules.{Placed, next}
use Rattle.ab_fixtures.proofs.solo.SoloOrderer.on.Goals as goal

pub returns-clause-ok : goal.returns-clause-ok
returns-clause-ok g c =
    let p = c.args.self.now in
    let m = message c.args.m in
    let asked = c.asked_in.ensures ∙ (ap (λ (v : Placed). asked_of v.at.instance m) c.self.view_is ∙ sym (asked_says p.cluster p.at.instance m)) in
    let after : Option Request → Placed = λ o. record { cluster = p.cluster; at = next p.at o } in
    (c.in_ok-next.ensures ∙ ap after asked, c.new.ensures)
