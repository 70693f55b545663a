use Rattle.std.proofs.Common.{◌≡◌, ◌∙◌, true, false, suc, sym, arith}
use Rattle.std.proofs.lemmas.Grind.{common_steps}
use Rattle.ab_pbft_rules.specs.Rules as rules
use Rattle.ab_pbft_work.specs.Turns.{seat_of}
use Rattle.ab_pbft_work.proofs.TurnLemmas.{when_does, unless_does}
use Rattle.ab_pbft_work.proofs.progress.Progress.offer_all.Goals as goal

pub returns-then-not-may_propose : goal.returns-then-not-may_propose
returns-then-not-may_propose c =
    let off : c.may_propose.result ≡ false = grind (arith, common_steps) in
    let seat = seat_of c.args.seat.now in
    unless_does c.args.self.now c.args.self.now (λ m. rules.may_propose seat (rules.idle m)) (λ w. rules.offer_requests seat (suc seat.k) (rules.offer_base seat w)) (sym c.may_propose.ensures ∙ off)

pub returns : goal.returns
returns c =
    let on : c.may_propose.result ≡ true = grind (arith, common_steps) in
    let seat = seat_of c.args.seat.now in
    when_does c.args.self.now c.offer_requests.new.self (λ m. rules.may_propose seat (rules.idle m)) (λ w. rules.offer_requests seat (suc seat.k) (rules.offer_base seat w)) (sym c.may_propose.ensures ∙ on)
    (λ w shows. c.in_ok-offer_requests.ensures (rules.offer_base seat w) (c.in_ok-offer_base.ensures w shows))
