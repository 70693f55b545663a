use Rattle.std.proofs.Common.{◌≡◌, ◌∙◌, ◌+◌, suc, refl, arith}
use Rattle.ab_lock.specs.Steps.{cert_at}
use Rattle.ab_lock.specs.ViewChanges.{certs_from}
use Rattle.ab_pbft_work.specs.Turns.{seat_of, memory_of}
use Rattle.ab_pbft_work.proofs.RuleLemmas.{leave_to_does}
use Rattle.ab_pbft_work.proofs.progress.Progress.leave_to.Goals as goal

pub returns : goal.returns
returns c =
    let b = memory_of c.args.self.now.memory in
    let seat = seat_of c.args.seat.now in
    let most : c.from.result + 1 ≡ suc c.args.seat.now.k = omega (arith, c.from.ensures) in
    let e : c.in_ok-certs.certs.items ≡ certs_from (cert_at b.peer.core.certs) (suc c.args.seat.now.k) 0 = c.in_ok-certs.ensures ∙ (λ j. certs_from (cert_at (c.deref.ensures.value j)) (most j) 0) in
    leave_to_does seat c.args.self.now c.keep_own.new.self c.leave.new.self c.args.view c.in_ok-certs.certs.items e (c.in_ok-leave.ensures seat (c.deref-2.ensures.value ∙ e)) (λ s is. c.in_ok-keep_own.ensures seat s refl is)
