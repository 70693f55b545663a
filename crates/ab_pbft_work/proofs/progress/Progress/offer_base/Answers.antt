use Rattle.std.proofs.Common.{◌≡◌, ◌∙◌, true, false, sym, subst, arith}
use Rattle.std.proofs.lemmas.Grind.{common_steps}
use Rattle.ab_hist.specs.declared.request.Request.{Request}
use Rattle.std.proofs.Common.{List, not, length}
use Rattle.std.specs.Prelude.{◌&&◌, nat_le}
use Rattle.ab_msg.specs.declared.value.Value.TheVariants.{Base}
use Rattle.ab_pbft_rules.specs.Rules as rules
use Rattle.ab_pbft_work.specs.Turns.{seat_of, memory_of, Does, can_offer_base}
use Rattle.ab_pbft_work.proofs.TurnLemmas.{when_does, unless_does}
use Rattle.ab_pbft_work.proofs.RuleLemmas.{and_left, empty_goes, empty_short}
use Rattle.ab_pbft_work.proofs.progress.Progress.offer_base.Goals as goal

pub returns-then-not-may_offer_base : goal.returns-then-not-may_offer_base
returns-then-not-may_offer_base c =
    let off : c.may_offer_base.result ≡ false = grind (arith, common_steps) in
    unless_does c.args.self.now c.args.self.now (can_offer_base (seat_of c.args.seat.now)) (rules.offer (seat_of c.args.seat.now) (Base c.args.seat.now.base)) (sym c.may_offer_base.ensures ∙ off)

pub offer-requires-clause-next : goal.offer-requires-clause-next
offer-requires-clause-next c =
    let b = memory_of c.args.self.now.memory in
    let on : c.may_offer_base.result ≡ true = grind (arith, common_steps) in
    empty_goes b.peer.core.accepted c.in_ok-base.base (and_left (rules.is_empty b.peer.core.accepted) (not (rules.is_empty b.requests) && nat_le (length c.args.seat.now.base) 1024) (sym c.may_offer_base.ensures ∙ on))

pub offer-requires-clause-room : goal.offer-requires-clause-room
offer-requires-clause-room c =
    let b = memory_of c.args.self.now.memory in
    let on : c.may_offer_base.result ≡ true = grind (arith, common_steps) in
    empty_short b.peer.core.accepted (and_left (rules.is_empty b.peer.core.accepted) (not (rules.is_empty b.requests) && nat_le (length c.args.seat.now.base) 1024) (sym c.may_offer_base.ensures ∙ on))

pub returns : goal.returns
returns c =
    let on : c.may_offer_base.result ≡ true = grind (arith, common_steps) in
    let seat = seat_of c.args.seat.now in
    when_does c.args.self.now c.offer.new.self (can_offer_base seat) (rules.offer seat (Base c.args.seat.now.base)) (sym c.may_offer_base.ensures ∙ on)
    (subst (λ (h : List Request). Does c.args.self.now c.offer.new.self (rules.offer seat (Base h))) c.in_ok-base.ensures (c.in_ok-offer.ensures seat))
