use Rattle.std.proofs.Common.{◌≡◌, ◌∙◌, ap, arith}
use Rattle.std.specs.Prelude.{count_by, nat_lt}
use Rattle.ab_lock.specs.ViewChanges.{Kept}
use Rattle.ab_msg.specs.declared.value.Value.{Value}
use Rattle.ab_pbft_rules.specs.Rules.{least_above}
use Rattle.ab_pbft_work.specs.Turns.{seat_of, memory_of}
use Rattle.ab_pbft_work.proofs.RuleLemmas.{follow_few, follow_some, follow_none}
use Rattle.ab_pbft_work.proofs.progress.Progress.follow.Goals as goal

pub returns-then-count_later-from : goal.returns-then-count_later-from
returns-then-count_later-from c =
    let b = memory_of c.args.self.now.memory in
    let count : c.count_later.result ≡ count_by (λ (u : Kept Value). nat_lt b.peer.core.view u.view) b.changes = c.count_later.ensures ∙ ap (count_by (λ (u : Kept Value). nat_lt b.peer.core.view u.view)) c.deref.ensures.value in
    follow_few (seat_of c.args.seat.now) c.args.self.now c.args.self.now c.count_later.result count (omega arith)

pub returns-in_ok-leave_to-in-Some : goal.returns-in_ok-leave_to-in-Some
returns-in_ok-leave_to-in-Some c =
    let b = memory_of c.args.self.now.memory in
    let count : c.count_later.result ≡ count_by (λ (u : Kept Value). nat_lt b.peer.core.view u.view) b.changes = c.count_later.ensures ∙ ap (count_by (λ (u : Kept Value). nat_lt b.peer.core.view u.view)) c.deref.ensures.value in
    follow_some (seat_of c.args.seat.now) c.args.self.now c.leave_to.new.self c.count_later.result c.in-Some.later count (omega arith) (c.in-Some.ensures ∙ ap (least_above b.peer.core.view) c.deref-2.ensures.value) c.in_ok-leave_to-in-Some.ensures

pub returns-in-None : goal.returns-in-None
returns-in-None c =
    let b = memory_of c.args.self.now.memory in
    follow_none (seat_of c.args.seat.now) c.args.self.now c.args.self.now (c.in-None.ensures ∙ ap (least_above b.peer.core.view) c.deref-2.ensures.value)
