use Rattle.std.proofs.Common.{◌≡◌, ◌∙◌, true, false, sym, arith}
use Rattle.std.proofs.lemmas.Grind.{common_steps}
use Rattle.ab_msg.specs.declared.value.Value.TheVariants.{Base}
use Rattle.ab_pbft_rules.specs.Rules as rules
use Rattle.ab_pbft_work.specs.Turns.{seat_of, memory_of}
use Rattle.ab_pbft_work.proofs.TurnLemmas.{when_does, unless_does}
use Rattle.ab_pbft_work.proofs.RuleLemmas.{and_left, and_right, empty_goes, empty_short}
use Rattle.ab_pbft_work.proofs.progress.Progress.take_base.Goals as goal

pub returns-then-not-may_take_base : goal.returns-then-not-may_take_base
returns-then-not-may_take_base c =
    let off : c.may_take_base.result ≡ false = grind (arith, common_steps) in
    let seat = seat_of c.args.seat.now in
    unless_does c.args.self.now c.args.self.now (λ m. rules.may_take_base seat (rules.idle m) c.args.by c.args.view c.args.x c.args.base) (λ w. rules.settle seat (rules.take_value (Base c.args.base) w)) (sym c.may_take_base.ensures ∙ off)

pub accept-requires-clause-next : goal.accept-requires-clause-next
accept-requires-clause-next c =
    let b = memory_of c.args.self.now.memory in
    let on : c.may_take_base.result ≡ true = grind (arith, common_steps) in
    let all = and_right (rules.may_take (seat_of c.args.seat.now) (rules.idle b) c.args.by c.args.view) _ (sym c.may_take_base.ensures ∙ on) in
    empty_goes b.peer.core.accepted c.args.base (and_left (rules.is_empty b.peer.core.accepted) _ all)

pub accept-requires-clause-room : goal.accept-requires-clause-room
accept-requires-clause-room c =
    let b = memory_of c.args.self.now.memory in
    let on : c.may_take_base.result ≡ true = grind (arith, common_steps) in
    let all = and_right (rules.may_take (seat_of c.args.seat.now) (rules.idle b) c.args.by c.args.view) _ (sym c.may_take_base.ensures ∙ on) in
    empty_short b.peer.core.accepted (and_left (rules.is_empty b.peer.core.accepted) _ all)

pub returns : goal.returns
returns c =
    let on : c.may_take_base.result ≡ true = grind (arith, common_steps) in
    let seat = seat_of c.args.seat.now in
    when_does c.args.self.now _ (λ m. rules.may_take_base seat (rules.idle m) c.args.by c.args.view c.args.x c.args.base) (λ w. rules.settle seat (rules.take_value (Base c.args.base) w)) (sym c.may_take_base.ensures ∙ on)
    (λ w shows. c.in_ok-settle.ensures (rules.take_value (Base c.args.base) w) (c.in_ok-accept.ensures w shows))
