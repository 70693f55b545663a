use Rattle.std.proofs.Common.{◌≡◌, ◌+◌, ◌*◌, ◌≤◌, ◌∷◌, [], List, Some, true, arith, sym, ap, ◌∙◌, subst}
use Rattle.std.specs.Prelude.{if◌then◌else◌}
use Rattle.ab_msg.specs.declared.zcert.Zcert.{Zcert}
use Rattle.ab_hist.specs.declared.request.Request.{Request}
use Rattle.ab_msg.specs.declared.message.Msg.TheVariants as msg
use Rattle.ab_abs.specs.declared.seen.Seen.{Seen}
use Rattle.ab_run.specs.Clients.{after_move, cert_due, certifying, move_cert, move_panic, to_all}
use Rattle.ab_client.specs.Clients.{Seat, alone, is_waiting}
use Rattle.ab_client.specs.Moved.{IsMoved, IsPlaced}
use Rattle.ab_client.proofs.MovedLemmas.{moved_cert, moved_so}
use Rattle.ab_client.proofs.client.Client.certify.Goals as goal

pub returns-in_ok-outs-in-Some-clause-ok : goal.returns-in_ok-outs-in-Some-clause-ok
returns-in_ok-outs-in-Some-clause-ok c =
    let s : Seat = c.args.self.now in
    let m : Request = c.args.request.now in
    let z : Zcert = c.in-Some.zcert in
    let now : Seat = c.note_sent.new.self in
    let within : c.self.inside.instance ≤ 4294967295 = omega arith in
    let at : s.cli.at ≤ 4294967295 = subst (λ (t : Seat). t.cli.at ≤ 4294967295) c.self.view_is within in
    let waits : is_waiting s.cli.phase ≡ true = sym c.is_waiting.ensures ∙ c.if-not-is_waiting.false in
    let due : cert_due (alone s.cluster) s.cli m ≡ Some z = sym c.in_ok-zcert.ensures ∙ c.in-Some.is in
    let noted : now ≡ record s { cli = after_move s.cli (move_cert z) } = c.note_sent.ensures in
    moved_so s (if is_waiting s.cli.phase then certifying (cert_due (alone s.cluster) s.cli m) else move_panic ∷ []) (move_cert z ∷ []) now c.in_ok-outs-in-Some.outs c.new_in.result.items
    ((λ i. if waits i then certifying (due i) else move_panic ∷ []))
    (subst (λ (l : List Seen). IsMoved s (move_cert z ∷ []) now c.in_ok-outs-in-Some.outs l) (sym c.new_in.ensures)
    (moved_cert s (subst (λ (t : Seat). IsPlaced t.me t.cli) c.self.view_is c.self.invariant.0) m c.requires.request z due at now c.in_ok-outs-in-Some.outs noted
    (c.in_ok-outs-in-Some.ensures ∙ ap (λ (t : Seat). to_all (3 * t.cluster.f + 1) (msg.Cert t.cli.at z)) c.self.view_is)))
