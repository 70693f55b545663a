use Rattle.std.proofs.Common.{◌+◌, ℕ, length, arith, ap, sym, subst}
use Rattle.std.proofs.lemmas.Result.{IfErr-weaker}
use Rattle.ab_num.specs.declared.plan.ServiceName.{ServiceName}
use Rattle.ab_svc.specs.Echoes.{echo_machine}
use Rattle.ab_kv.specs.KvMachines.{kv_machine}
use Rattle.ab_replay.specs.Protocols.{any}
use Rattle.ab_replay.specs.Replays.{run_in, proto_of, EventsCause, TextCause}
use Rattle.ab_replay.proofs.RunLemmas.{sized_so, stops_text}
use Rattle.ab_text.specs.Schedules.{script_of}
use Rattle.ab_replay.proofs.TextLemmas.{all_served}
use Rattle.ab_replay.proofs.running.simulate.Goals as goal

pub perform-requires-clause-served : goal.perform-requires-clause-served
perform-requires-clause-served c = λ i one. all_served c.in-Ok.schedule.head.cluster.plan i

pub perform-requires-in-Kv-clause-served : goal.perform-requires-in-Kv-clause-served
perform-requires-in-Kv-clause-served c = λ i one. all_served c.in-Ok.schedule.head.cluster.plan i

pub returns-in-Echo-clause-cause : goal.returns-in-Echo-clause-cause
returns-in-Echo-clause-cause c =
    let text = c.args.text.now in
    let head = c.in-Ok.schedule.head in
    let events = c.in-Ok.schedule.events in
    let s = script_of head events in
    let line : ℕ = c.lines_of_head.result + 1 + length c.as_slice-2.result.now in
    IfErr-weaker c.perform.result (λ e. EventsCause e line (run_in (any echo_machine) head.cluster s)) (λ e. TextCause e text)
    (λ e at. stops_text e text s head.cluster line (sized_so head events) c.in-Ok.ensures (omega (arith, c.if-as_slice-gt-MOST_EVENTS.false, ap length c.as_slice.ensures)) (λ j. c.lines_of_head.ensures.count j + 1 + length (c.as_slice-2.ensures j))
    (subst (λ (v : ServiceName). EventsCause e line (run_in (proto_of v) head.cluster s)) (sym c.in-Echo.is) at)) c.perform.ensures.cause

pub returns-clause-cause : goal.returns-clause-cause
returns-clause-cause c =
    let text = c.args.text.now in
    let head = c.in-Ok.schedule.head in
    let events = c.in-Ok.schedule.events in
    let s = script_of head events in
    let line : ℕ = c.lines_of_head.result + 1 + length c.as_slice-2.result.now in
    IfErr-weaker c.perform-in-Kv.result (λ e. EventsCause e line (run_in (any kv_machine) head.cluster s)) (λ e. TextCause e text)
    (λ e at. stops_text e text s head.cluster line (sized_so head events) c.in-Ok.ensures (omega (arith, c.if-as_slice-gt-MOST_EVENTS.false, ap length c.as_slice.ensures)) (λ j. c.lines_of_head.ensures.count j + 1 + length (c.as_slice-2.ensures j))
    (subst (λ (v : ServiceName). EventsCause e line (run_in (proto_of v) head.cluster s)) (sym c.in-Kv.is) at)) c.perform-in-Kv.ensures.cause
