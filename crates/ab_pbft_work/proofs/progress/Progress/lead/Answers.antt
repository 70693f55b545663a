use Rattle.std.proofs.Common.{◌≡◌, ◌∙◌, true, false, List, sym, ap, subst, arith}
use Rattle.std.proofs.lemmas.Grind.{common_steps}
use Rattle.ab_lock.specs.ViewChanges.{lowest}
use Rattle.ab_lock.specs.Steps.{Change}
use Rattle.ab_msg.specs.declared.value.Value.{Value}
use Rattle.ab_pbft_rules.specs.Rules as rules
use Rattle.ab_pbft_work.specs.Turns.{seat_of, memory_of, Does}
use Rattle.ab_pbft_work.proofs.TurnLemmas.{unless_does}
use Rattle.ab_pbft_work.proofs.RuleLemmas.{lead_does}
use Rattle.ab_pbft_work.proofs.progress.Progress.lead.Goals as goal

pub returns-then-not-may_lead : goal.returns-then-not-may_lead
returns-then-not-may_lead c =
    let off : c.may_lead.result ≡ false = grind (arith, common_steps) in
    let seat = seat_of c.args.seat.now in
    unless_does c.args.self.now c.args.self.now (λ m. rules.may_lead seat (rules.idle m)) (λ w. rules.enter_view seat w.at.peer.core.view (lowest seat.f w.at.changes w.at.peer.core.view) (rules.does (rules.leads w.at.peer.core.view) w)) (sym c.may_lead.ensures ∙ off)

pub returns : goal.returns
returns c =
    let on : c.may_lead.result ≡ true = grind (arith, common_steps) in
    let b = memory_of c.args.self.now.memory in
    let seat = seat_of c.args.seat.now in
    let enters = subst (λ (l : List (Change Value)). Does c.tell_lead.new.self c.enter_view.new.self (rules.enter_view seat b.peer.core.view l)) c.deref-2.ensures.value c.in_ok-enter_view.ensures in
    lead_does seat c.args.self.now c.enter_view.new.self c.tell_lead.new.self c.in_ok-changes.changes.items (sym c.may_lead.ensures ∙ on)
    (c.in_ok-changes.ensures ∙ ap (λ l. lowest seat.f l b.peer.core.view) c.deref.ensures.value) c.in_ok-tell_lead.ensures enters
