use Rattle.std.proofs.Common.{◌≡◌, Bool, true, false, suc, subst, arith}
use Rattle.std.proofs.lemmas.Grind.{common_steps}
use Rattle.ab_pbft_rules.specs.Rules.{Work}
use Rattle.ab_pbft_work.specs.Turns.{seat_of, Shows, Offered}
use Rattle.ab_pbft_work.proofs.RuleLemmas.{offers_begin, offers_more, offers_stop, offers_end}
use Rattle.ab_pbft_work.proofs.progress.Progress.offer_requests.Goals as goal

pub slots-init : goal.slots-init
slots-init c = offers_begin (seat_of c.args.seat.now) (suc c.args.seat.now.k) c.args.self.now

pub slots-preserved : goal.slots-preserved
slots-preserved c =
    let on : c.in_ok-offer_next.field-0 ≡ true = grind (arith, common_steps) in
    offers_more (seat_of c.args.seat.now) (suc c.args.seat.now.k) c.slots._n c.args.self.now c.slots.self c.offer_next.new.self (omega arith) c.slots.invariant
    (subst (λ (b : Bool). (w : Work) → Shows c.slots.self w → Offered (seat_of c.args.seat.now) b c.offer_next.new.self w) on c.in_ok-offer_next.ensures)

pub returns-then-not-branch : goal.returns-then-not-branch
returns-then-not-branch c =
    let off : c.in_ok-offer_next.field-0 ≡ false = grind (arith, common_steps) in
    offers_stop (seat_of c.args.seat.now) (suc c.args.seat.now.k) c.slots._n c.args.self.now c.slots.self c.offer_next.new.self (omega arith) c.slots.invariant
    (subst (λ (b : Bool). (w : Work) → Shows c.slots.self w → Offered (seat_of c.args.seat.now) b c.offer_next.new.self w) off c.in_ok-offer_next.ensures)

pub returns : goal.returns
returns c = offers_end (seat_of c.args.seat.now) (suc c.args.seat.now.k) c.slots._n c.args.self.now c.slots.self (omega arith) c.slots.invariant
