use Rattle.std.proofs.Common.{◌≡◌, ◌∙◌, true, false, map, List, sym, ap, subst, arith}
use Rattle.std.proofs.lemmas.Grind.{common_steps}
use Rattle.ab_order.specs.Inputs.{ChangeReading}
use Rattle.ab_lock.specs.Steps.{Change}
use Rattle.ab_msg.specs.declared.value.Value.{Value}
use Rattle.ab_pbft_rules.specs.Rules as rules
use Rattle.ab_pbft_work.specs.Turns.{seat_of, memory_of, Does}
use Rattle.ab_pbft_work.proofs.TurnLemmas.{when_does, unless_does}
use Rattle.ab_pbft_work.proofs.progress.Progress.take_new_view.Goals as goal

pub returns-then-not-may_follow : goal.returns-then-not-may_follow
returns-then-not-may_follow c =
    let off : c.may_follow.result ≡ false = grind (arith, common_steps) in
    let seat = seat_of c.args.seat.now in
    unless_does c.args.self.now c.args.self.now (λ m. rules.may_follow seat (rules.idle m) c.args.by c.args.view c.args.changes.items) (λ w. rules.enter_view seat c.args.view (map rules.change_of c.args.changes.items) w) (ap (λ (l : List ChangeReading). rules.may_follow seat (rules.idle (memory_of c.args.self.now.memory)) c.args.by c.args.view l) (sym c.deref.ensures.value) ∙ (sym c.may_follow.ensures ∙ off))

pub returns : goal.returns
returns c =
    let on : c.may_follow.result ≡ true = grind (arith, common_steps) in
    let seat = seat_of c.args.seat.now in
    when_does c.args.self.now c.enter_view.new.self (λ m. rules.may_follow seat (rules.idle m) c.args.by c.args.view c.args.changes.items) (λ w. rules.enter_view seat c.args.view (map rules.change_of c.args.changes.items) w) (ap (λ (l : List ChangeReading). rules.may_follow seat (rules.idle (memory_of c.args.self.now.memory)) c.args.by c.args.view l) (sym c.deref.ensures.value) ∙ (sym c.may_follow.ensures ∙ on))
    (subst (λ (l : List (Change Value)). Does c.args.self.now c.enter_view.new.self (rules.enter_view seat c.args.view l)) (c.deref-2.ensures.value ∙ c.in_ok-changes.ensures) c.in_ok-enter_view.ensures)
