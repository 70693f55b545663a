use Rattle.std.proofs.Common.{◌≡◌, ◌+◌, Ok, Err, arith, drop, sym, ◌∙◌}
use Rattle.ab_num.proofs.Results.{kept_err}
use Rattle.ab_world.specs.Runs.{outcome}
use Rattle.ab_replay.specs.declared.fault.ReplayFault.TheVariants.{OutOfMemory}
use Rattle.ab_replay.specs.Replays.{counts_of, EventsCause}
use Rattle.ab_replay.proofs.RunLemmas.{counted, next_event, refused_at, step_steps, steps_to}
use Rattle.ab_replay.proofs.playing.step_through.Goals as goal

pub loop-i-preserved : goal.loop-i-preserved
loop-i-preserved g c =
    let proto = g.P.Protocol.proto in
    let i = c.loop-i.i in
    let e = c.index-events-i.result in
    let events = c.args.events.now in
    let steps = step_steps proto c.loop-i.world c.step.new.self e c.in-Ok.ensures.ok in
    let next = next_event events i e c.loop-i-test.true c.index-events-i.is in
    record {
      rest = steps_to proto events i e c.loop-i.world (outcome proto 1 c.args.world.now events) next c.loop-i.invariant.rest (Ok c.step.new.self) c.in-Ok.ensures.ok;
      told = counted proto c.loop-i.world c.step.new.self e (drop i events) (drop (i + 1) events) c.loop-i.counts.items c.keep.new.counts.items
          (counts_of proto c.args.world.now events) c.packets.result c.in-Ok.ensures.ok next c.packets.ensures c.in_ok-keep.ensures c.loop-i.invariant.told;
      counted = omega (arith, steps.0, c.loop-i.invariant.counted);
      goes = steps.1 ∙ c.loop-i.invariant.goes;
    }

pub returns-in_err-keep-clause-cause : goal.returns-in_err-keep-clause-cause
returns-in_err-keep-clause-cause g c =
    kept_err c.from_residual.result OutOfMemory (λ e. EventsCause e c.args.line (outcome g.P.Protocol.proto 1 c.args.world.now c.args.events.now)) c.from_residual.ensures.1 tt

pub returns-in-Err-clause-cause : goal.returns-in-Err-clause-cause
returns-in-Err-clause-cause g c =
    let proto = g.P.Protocol.proto in
    let i = c.loop-i.i in
    let e = c.index-events-i.result in
    let events = c.args.events.now in
    let fault = c.in-Err.fault in
    let whole = outcome proto 1 c.args.world.now events in
    let next = next_event events i e c.loop-i-test.true c.index-events-i.is in
    refused_at proto c.loop-i.world e c.args.line i (c.args.line + 1 + i) fault c.fault_of_step.result whole c.fault_of_step.ensures (omega arith) c.loop-i.invariant.goes
    (omega (arith, c.loop-i.invariant.counted, c.loop-i-test.true, c.requires.few)) c.in-Err.ensures.cause
    (λ refused. sym (steps_to proto events i e c.loop-i.world whole next c.loop-i.invariant.rest (Err fault) refused))
