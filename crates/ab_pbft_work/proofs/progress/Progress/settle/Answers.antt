use Rattle.std.proofs.Common.{◌≡◌, ◌+◌, ◌*◌, Bool, true, false, subst, arith}
use Rattle.std.proofs.lemmas.Grind.{common_steps}
use Rattle.ab_pbft_rules.specs.Rules.{Work}
use Rattle.ab_pbft_work.specs.Turns.{seat_of, Shows, Went, next_in}
use Rattle.ab_pbft_work.proofs.StepLemmas.{steps_begin, steps_more, steps_stop, steps_end}
use Rattle.ab_pbft_work.proofs.progress.Progress.settle.Goals as goal

pub steps-init : goal.steps-init
steps-init c = steps_begin (seat_of c.args.seat.now) (3 * (c.args.seat.now.k + 1) + 1) c.args.self.now

pub steps-preserved : goal.steps-preserved
steps-preserved c =
    let on : c.in_ok-step.field-0 ≡ true = grind (arith, common_steps) in
    steps_more (seat_of c.args.seat.now) (3 * (c.args.seat.now.k + 1) + 1) c.steps._n c.args.self.now c.steps.self c.step.new.self (omega arith) c.steps.invariant
    (subst (λ (b : Bool). (w : Work) → Shows c.steps.self w → Went (seat_of c.args.seat.now) b c.step.new.self w (next_in (seat_of c.args.seat.now) w)) on c.in_ok-step.ensures)

pub returns-then-not-branch : goal.returns-then-not-branch
returns-then-not-branch c =
    let off : c.in_ok-step.field-0 ≡ false = grind (arith, common_steps) in
    steps_stop (seat_of c.args.seat.now) (3 * (c.args.seat.now.k + 1) + 1) c.steps._n c.args.self.now c.steps.self c.step.new.self (omega arith) (omega arith) c.steps.invariant
    (subst (λ (b : Bool). (w : Work) → Shows c.steps.self w → Went (seat_of c.args.seat.now) b c.step.new.self w (next_in (seat_of c.args.seat.now) w)) off c.in_ok-step.ensures)

pub returns : goal.returns
returns c = steps_end (seat_of c.args.seat.now) (3 * (c.args.seat.now.k + 1) + 1) c.steps._n c.args.self.now c.steps.self (omega arith) (omega arith) c.steps.invariant
