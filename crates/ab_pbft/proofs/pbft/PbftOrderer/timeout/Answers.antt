use Rattle.std.proofs.Common.{◌≡◌, refl, ap, ◌∙◌}
use Rattle.ab_abs.specs.Messages.{timed}
use Rattle.ab_order.specs.Inputs.{timeout}
use Rattle.ab_pbft_shelf.specs.Signing.{Signing, signing}
use Rattle.ab_pbft.specs.Events.{post_of, next_of}
use Rattle.ab_pbft.proofs.Calls.{both_ok, after_is, sends_is}
use Rattle.ab_pbft.proofs.pbft.PbftOrderer.timeout.Goals as goal

pub returns-clause-ok : goal.returns-clause-ok
returns-clause-ok g c =
    let q = c.args.self.now in
    let pen = g.N.Notary.pen c.args.n.now in
    let shelf = c.in_ok-shelf.shelf in
    let held : shelf ≡ q.shelf = c.in_ok-shelf.ensures ∙ ap (λ (p : Signing). p.shelf) c.self.view_is in
    both_ok c.work.result (next_of pen q shelf timeout) (signing.after pen q timed) (post_of pen q shelf timeout).sent (signing.sends pen q timed) c.work.ensures.next c.work.ensures.sends
    (after_is q timed timeout refl pen shelf held) (sends_is q timed timeout refl pen shelf held)
