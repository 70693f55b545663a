use Rattle.std.proofs.Common.{◌≡◌, Some, sym, ◌∙◌}
use Rattle.ab_wire.specs.Views.{tags as tags_of}
use Rattle.ab_zlight.specs.Rules.{answer_of}
use Rattle.ab_zcert.specs.Rules.{signed_specs}
use Rattle.ab_zcert.proofs.SendingLemmas.{sends_moved}
use Rattle.ab_zcert.proofs.zcert.ZCert.order.Goals as goal

pub returns-in-Some-clause-ok : goal.returns-in-Some-clause-ok
returns-in-Some-clause-ok g c =
    let old = c.args.self.now in
    let m = c.args.m.now in
    let pen = g.N.Notary.pen c.args.n.now in
    let answer = answer_of g.S.Service.machine old.light.at m in
    let done = c.in_ok-signed.ensures.ok in
    let some : Some c.in-Some.signed ≡ signed_specs pen old.light.at m answer = sym c.in-Some.is ∙ done.1 in
    (done.0, sends_moved pen old.light.f old.light.at old.zcert c.answer.new.self m (tags_of c.args.came.now) answer c.in-Some.signed c.sends.result done.0 some c.sends.ensures)
