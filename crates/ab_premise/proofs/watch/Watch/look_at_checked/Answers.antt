use Rattle.std.proofs.Common.{◌≡◌, ap, ◌∙◌}
use Rattle.ab_links.specs.Digested.{any_found, keep_items}
use Rattle.ab_wire.specs.Views.{message}
use Rattle.ab_premise.specs.Collisions.{message_items}
use Rattle.ab_premise.specs.Premises.{forged_first}
use Rattle.ab_premise.specs.Watching.{Watching}
use Rattle.ab_premise.proofs.LookLemmas.{message_found, message_kept}
use Rattle.ab_premise.proofs.watch.Watch.look_at_checked.Goals as goal

pub returns-clause-found : goal.returns-clause-found
returns-clause-found c =
    let f = c.args.k.now.f in
    let m = c.args.m.now in
    let old = c.self.inside.digests in
    message_found f m.me m.msg (message c.msg.result.now) c.checks.result old c.look_at_claims.new.digests old c.checks.ensures c.msg.ensures.message c.in_ok-of_claims.ensures.ok
    c.in_ok-of_claims.of_claims c.in_ok-of_values.of_values c.in_ok-of_claims.ensures.found c.in_ok-of_values.ensures.found
    ∙ ap (λ (x : Watching). any_found x.kept (message_items f m.me m.msg)) c.self.view_is

pub returns-clause-ok : goal.returns-clause-ok
returns-clause-ok c =
    let f = c.args.k.now.f in
    let m = c.args.m.now in
    let old = c.self.inside.digests in
    let kept : c.look_at_message.new.digests ≡ keep_items old (message_items f m.me m.msg) =
    message_kept f m.me m.msg (message c.msg.result.now) c.checks.result old c.look_at_claims.new.digests c.look_at_message.new.digests c.checks.ensures c.msg.ensures.message c.in_ok-of_claims.ensures.ok
    c.in_ok-of_values.ensures.ok in
    (λ j. record { made = c.self.inside.made; forged = forged_first c.self.inside.forged; kept = kept j; collided = c.self.inside.collided })
    ∙ ap (λ (x : Watching). record x { kept = keep_items x.kept (message_items f m.me m.msg) }) c.self.view_is
