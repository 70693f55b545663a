use Rattle.std.proofs.Common.{Some, None, ◌∙◌, ap, arith}
use Rattle.ab_pbft_rules.specs.Rules.{first_fit}
use Rattle.ab_pbft_work.specs.Turns.{seat_of}
use Rattle.ab_pbft_work.proofs.RuleLemmas.{fit_none, fit_some, full_fits, open_fits, first_fit_goes}
use Rattle.ab_pbft_work.proofs.progress.Progress.offer_next.Goals as goal

pub returns-then-len-from : goal.returns-then-len-from
returns-then-len-from c = fit_none (seat_of c.args.seat.now) c.args.self.now c.args.self.now (full_fits (seat_of c.args.seat.now) c.args.self.now (omega arith))

pub offer-requires-clause-next : goal.offer-requires-clause-next
offer-requires-clause-next c = first_fit_goes c.args.self.now.memory.accepted c.args.self.now.memory.requests.items c.in-Some.m (c.in-Some.ensures ∙ ap (first_fit c.args.self.now.memory.accepted) c.deref.ensures.value)

pub offer-requires-clause-room : goal.offer-requires-clause-room
offer-requires-clause-room c = omega arith

pub returns-in_ok-offer-in-Some : goal.returns-in_ok-offer-in-Some
returns-in_ok-offer-in-Some c =
    fit_some (seat_of c.args.seat.now) c.args.self.now c.offer.new.self c.in-Some.m (open_fits (seat_of c.args.seat.now) c.args.self.now (Some c.in-Some.m) (omega arith) (c.in-Some.ensures ∙ ap (first_fit c.args.self.now.memory.accepted) c.deref.ensures.value)) (c.in_ok-offer-in-Some.ensures (seat_of c.args.seat.now))

pub returns-in-None : goal.returns-in-None
returns-in-None c = fit_none (seat_of c.args.seat.now) c.args.self.now c.args.self.now (open_fits (seat_of c.args.seat.now) c.args.self.now None (omega arith) (c.in-None.ensures ∙ ap (first_fit c.args.self.now.memory.accepted) c.deref.ensures.value))
