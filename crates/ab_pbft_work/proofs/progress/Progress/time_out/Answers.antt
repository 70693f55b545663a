use Rattle.std.proofs.Common.{◌≡◌, ◌∙◌, ◌+◌, suc, true, false, sym, subst, arith}
use Rattle.std.proofs.lemmas.Grind.{common_steps}
use Rattle.ab_pbft_rules.specs.Rules as rules
use Rattle.ab_pbft_work.specs.Turns.{seat_of, Does}
use Rattle.ab_pbft_work.proofs.RuleLemmas.{time_out_does, time_out_not}
use Rattle.ab_pbft_work.proofs.progress.Progress.time_out.Goals as goal

pub returns-then-not-may_leave : goal.returns-then-not-may_leave
returns-then-not-may_leave c =
    let off : c.may_leave.result ≡ false = grind (arith, common_steps) in
    time_out_not (seat_of c.args.seat.now) c.args.self.now (sym c.may_leave.ensures.says ∙ off)

pub returns : goal.returns
returns c =
    let on : c.may_leave.result ≡ true = grind (arith, common_steps) in
    let seat = seat_of c.args.seat.now in
    let next : c.args.self.now.memory.view + 1 ≡ suc c.args.self.now.memory.view = omega arith in
    time_out_does seat c.args.self.now c.lead.new.self c.leave_to.new.self (sym c.may_leave.ensures.says ∙ on)
    (subst (λ n. Does c.args.self.now c.leave_to.new.self (rules.leave_to seat n)) next c.in_ok-leave_to.ensures) c.in_ok-lead.ensures
