use Rattle.std.proofs.Common.{◌≡◌, ℕ, ◌+◌, ◌<◌, ap, ◌∙◌, subst}
use Rattle.std.specs.Prelude.{IfOk, IsErrOf}
use Rattle.ab_msg.specs.Pens.{moved}
use Rattle.ab_wire.specs.Views.{message}
use Rattle.ab_abs.specs.declared.protocol.StepFault.TheVariants.{Spent}
use Rattle.ab_abs.specs.Messages.{took}
use Rattle.ab_order.specs.Readings.{read_message}
use Rattle.ab_slots.specs.Inputs.{input_of}
use Rattle.ab_pbft_shelf.specs.Shelves.{Shelf}
use Rattle.ab_pbft_shelf.specs.Signing.{Signing, puts, signing}
use Rattle.ab_pbft_shelf.specs.Signing as signings
use Rattle.ab_pbft.specs.Events.{post_of, next_of}
use Rattle.ab_pbft.proofs.Calls.{both_ok, after_is, sends_is, signs_is}
use Rattle.ab_pbft.proofs.pbft.PbftOrderer.on.Goals as goal

pub returns-clause-ok : goal.returns-clause-ok
returns-clause-ok g c =
    let q = c.args.self.now in
    let v = c.self.inside in
    let call = took (message c.args.m) in
    let e = input_of c.in_ok-input.input in
    let pen = g.N.Notary.pen c.args.n.now in
    let shelf = c.in_ok-held.held in
    let read : e ≡ signings.input_of q call =
    c.in_ok-input.ensures ∙ ap (λ (p : Signing). read_message p.cluster p.order.seat.i (message c.args.m)) c.self.view_is in
    let held : shelf ≡ puts q.order.seat.f call e q.shelf =
    c.in_ok-held.ensures ∙ (ap (λ (s : Shelf). puts v.seat.f call e s) c.in_ok-shelf.ensures ∙ ap (λ (p : Signing). puts p.order.seat.f call e p.shelf) c.self.view_is) in
    both_ok c.work.result (next_of pen q shelf e) (signing.after pen q call) (post_of pen q shelf e).sent (signing.sends pen q call) c.work.ensures.next c.work.ensures.sends (after_is q call e read pen shelf held) (sends_is q call e read pen shelf held)

pub returns-clause-pen : goal.returns-clause-pen
returns-clause-pen g c =
    let q = c.args.self.now in
    let v = c.self.inside in
    let call = took (message c.args.m) in
    let notary = g.N.Notary in
    let read : input_of c.in_ok-input.input ≡ signings.input_of q call =
    c.in_ok-input.ensures ∙ ap (λ (p : Signing). read_message p.cluster p.order.seat.i (message c.args.m)) c.self.view_is in
    subst (λ (k : ℕ). IfOk c.work.result (λ _. (notary.pen c.work.new.n ≡ moved (notary.pen c.args.n.now) k) × (notary.remains c.work.new.n + k ≡ notary.remains c.args.n.now)))
    (signs_is q call (input_of c.in_ok-input.input) read) c.work.ensures.pen

pub returns-clause-spent : goal.returns-clause-spent
returns-clause-spent g c =
    let q = c.args.self.now in
    let v = c.self.inside in
    let call = took (message c.args.m) in
    let notary = g.N.Notary in
    let read : input_of c.in_ok-input.input ≡ signings.input_of q call =
    c.in_ok-input.ensures ∙ ap (λ (p : Signing). read_message p.cluster p.order.seat.i (message c.args.m)) c.self.view_is in
    subst (λ (k : ℕ). IsErrOf c.work.result Spent → notary.remains c.args.n.now < k) (signs_is q call (input_of c.in_ok-input.input) read) c.work.ensures.spent
