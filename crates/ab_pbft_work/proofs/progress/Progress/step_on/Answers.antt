use Rattle.std.proofs.Common.{◌∙◌, Bool, Option, Some, None, suc, take, length, ap}
use Rattle.std.specs.Prelude.{slice_get, if◌then◌else◌}
use Rattle.std.specs.Option.{option_map}
use Rattle.ab_lock.specs.Steps.{prepares, executes}
use Rattle.ab_pbft_rules.specs.Traces.{OrderStep}
use Rattle.ab_pbft_work.specs.Turns.{seat_of, memory_of}
use Rattle.ab_pbft_work.proofs.StepLemmas.{prepare_went, execute_went, none_went}
use Rattle.ab_pbft_work.proofs.progress.Progress.step_on.Goals as goal

pub returns-then-may_prepare : goal.returns-then-may_prepare
returns-then-may_prepare c =
    let b = memory_of c.args.self.now.memory in
    let step : OrderStep = prepares b.peer.core.view (take (suc b.peer.core.prepared) b.peer.core.accepted) in
    prepare_went (seat_of c.args.seat.now) c.args.self.now _ step
    (c.may_prepare.ensures.next ∙ ap (λ (t : Bool). if t then Some step else None) c.if-may_prepare.true)
    c.in_ok-prepare.ensures

pub returns-then-may_execute : goal.returns-then-may_execute
returns-then-may_execute c =
    let b = memory_of c.args.self.now.memory in
    let n = length b.peer.core.executed in
    let step : Option OrderStep = option_map (λ v. executes b.peer.core.view n v) (slice_get b.peer.core.accepted n) in
    execute_went (seat_of c.args.seat.now) c.args.self.now _
    (c.may_prepare.ensures.next ∙ ap (λ (t : Bool). if t then Some (prepares b.peer.core.view (take (suc b.peer.core.prepared) b.peer.core.accepted)) else None) c.if-may_prepare.false)
    (c.may_execute.ensures.within c.if-may_execute.true)
    (c.may_execute.ensures.next ∙ ap (λ (t : Bool). if t then step else None) c.if-may_execute.true)
    c.in_ok-execute.ensures

pub returns : goal.returns
returns c =
    let b = memory_of c.args.self.now.memory in
    let n = length b.peer.core.executed in
    let step : Option OrderStep = option_map (λ v. executes b.peer.core.view n v) (slice_get b.peer.core.accepted n) in
    none_went (seat_of c.args.seat.now) c.args.self.now
    (c.may_prepare.ensures.next ∙ ap (λ (t : Bool). if t then Some (prepares b.peer.core.view (take (suc b.peer.core.prepared) b.peer.core.accepted)) else None) c.if-may_prepare.false)
    (c.may_execute.ensures.next ∙ ap (λ (t : Bool). if t then step else None) c.if-may_execute.false)
