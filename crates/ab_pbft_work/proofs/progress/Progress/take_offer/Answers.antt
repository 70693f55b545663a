use Rattle.std.proofs.Common.{◌≡◌, ◌∙◌, ◌&&◌, ◌==◌, true, false, length, sym, arith}
use Rattle.std.proofs.lemmas.Grind.{common_steps}
use Rattle.std.specs.Prelude.{nat_le}
use Rattle.std.specs.Str.{bytes_eq}
use Rattle.ab_msg.specs.Slots.{slot_digest}
use Rattle.ab_abs.specs.Values.{goes}
use Rattle.ab_msg.specs.declared.value.Value.TheVariants.{Request as Order}
use Rattle.ab_pbft_rules.specs.Rules as rules
use Rattle.ab_pbft_work.specs.Turns.{seat_of, memory_of}
use Rattle.ab_pbft_work.proofs.TurnLemmas.{when_does, unless_does}
use Rattle.ab_pbft_work.proofs.RuleLemmas.{and_left, and_right, same_short}
use Rattle.ab_pbft_work.proofs.progress.Progress.take_offer.Goals as goal

pub returns-then-not-may_take_request : goal.returns-then-not-may_take_request
returns-then-not-may_take_request c =
    let off : c.may_take_request.result ≡ false = grind (arith, common_steps) in
    let seat = seat_of c.args.seat.now in
    unless_does c.args.self.now c.args.self.now (λ m. rules.may_take_request seat (rules.idle m) c.args.by c.args.view c.args.slot c.args.x c.args.m) (λ w. rules.settle seat (rules.take_value (Order c.args.m) w)) (sym c.may_take_request.ensures ∙ off)

pub accept-requires-clause-next : goal.accept-requires-clause-next
accept-requires-clause-next c =
    let b = memory_of c.args.self.now.memory in
    let on : c.may_take_request.result ≡ true = grind (arith, common_steps) in
    let fits = goes b.peer.core.accepted (Order c.args.m) in
    let named = bytes_eq c.args.x (slot_digest (Order c.args.m)) in
    let within = nat_le c.args.slot c.args.seat.now.k in
    let next = c.args.slot == length b.peer.core.accepted in
    let all = and_right (rules.may_take (seat_of c.args.seat.now) (rules.idle b) c.args.by c.args.view) (next && (within && (named && fits))) (sym c.may_take_request.ensures ∙ on) in
    and_right named fits (and_right within (named && fits) (and_right next (within && (named && fits)) all))

pub accept-requires-clause-room : goal.accept-requires-clause-room
accept-requires-clause-room c =
    let b = memory_of c.args.self.now.memory in
    let on : c.may_take_request.result ≡ true = grind (arith, common_steps) in
    let fits = goes b.peer.core.accepted (Order c.args.m) in
    let named = bytes_eq c.args.x (slot_digest (Order c.args.m)) in
    let within = nat_le c.args.slot c.args.seat.now.k in
    let next = c.args.slot == length b.peer.core.accepted in
    let all = and_right (rules.may_take (seat_of c.args.seat.now) (rules.idle b) c.args.by c.args.view) (next && (within && (named && fits))) (sym c.may_take_request.ensures ∙ on) in
    same_short c.args.slot (length b.peer.core.accepted) (and_left next (within && (named && fits)) all) c.ranges.slot.fits

pub returns : goal.returns
returns c =
    let on : c.may_take_request.result ≡ true = grind (arith, common_steps) in
    let seat = seat_of c.args.seat.now in
    when_does c.args.self.now _ (λ m. rules.may_take_request seat (rules.idle m) c.args.by c.args.view c.args.slot c.args.x c.args.m) (λ w. rules.settle seat (rules.take_value (Order c.args.m) w)) (sym c.may_take_request.ensures ∙ on)
    (λ w shows. c.in_ok-settle.ensures (rules.take_value (Order c.args.m) w) (c.in_ok-accept.ensures w shows))
