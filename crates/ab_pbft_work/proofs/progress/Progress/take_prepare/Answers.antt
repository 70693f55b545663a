use Rattle.std.proofs.Common.{◌≡◌, ◌==◌, true, false, subst, arith}
use Rattle.std.proofs.lemmas.Bool.Decides.{nat_tests}
use Rattle.ab_pbft_rules.specs.Rules as rules
use Rattle.ab_pbft_work.specs.Turns.{seat_of, Does, votes_for}
use Rattle.ab_lock.specs.Votes.{SlotVote}
use Rattle.std.proofs.Common.{ℕ, List}
use Rattle.ab_pbft_work.proofs.TurnLemmas.{when_does, unless_does}
use Rattle.ab_pbft_work.proofs.progress.Progress.take_prepare.Goals as goal

pub returns-then-view-self : goal.returns-then-view-self
returns-then-view-self c =
    let off : (c.args.view == c.args.self.now.memory.view) ≡ false = grind (arith, nat_tests) in
    let seat = seat_of c.args.seat.now in
    unless_does c.args.self.now c.args.self.now (λ m. c.args.view == m.peer.core.view) (λ w. rules.settle seat (votes_for (record { by = c.args.by; slot = c.args.slot; x = c.args.x }) w)) off

pub returns : goal.returns
returns c =
    let on : (c.args.view == c.args.self.now.memory.view) ≡ true = grind (arith, nat_tests) in
    let seat = seat_of c.args.seat.now in
    let kept = subst (λ (u : SlotVote (List ℕ)). Does c.args.self.now c.keep_vote.new.self (votes_for u)) c.new.ensures c.in_ok-keep_vote.ensures in
    when_does c.args.self.now c.settle.new.self (λ m. c.args.view == m.peer.core.view) (λ w. rules.settle seat (votes_for (record { by = c.args.by; slot = c.args.slot; x = c.args.x }) w)) on
    (λ w shows. c.in_ok-settle.ensures (votes_for (record { by = c.args.by; slot = c.args.slot; x = c.args.x }) w) (kept w shows))
