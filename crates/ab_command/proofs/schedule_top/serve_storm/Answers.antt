use Rattle.std.proofs.Common.{subst, sym, rules}
use Rattle.std.specs.Io.KnownBytes.{Keeps}
use Rattle.ab_storm.specs.declared.running.StormFault.{StormFault}
use Rattle.ab_storm.specs.Runs.{StormCause}
use Rattle.ab_command.specs.Statuses.{kv}
use Rattle.ab_command.specs.Written.{WritesStorm}
use Rattle.ab_command.proofs.ScheduleSettled.{memory_settled, past_settled, schedule_told}
use Rattle.ab_command.proofs.schedule_top.serve_storm.Goals as goal

pub returns-in-Err-TooManyPackets : goal.returns-in-Err-TooManyPackets
returns-in-Err-TooManyPackets g c =
    let out = (g.O.Sink.state c.args.out.now).held in
    let kept : Keeps out out = search rules in
    let past = subst (λ (e : StormFault). StormCause kv e c.args.asked.now) c.in-Err-TooManyPackets.field-0-is c.in-Err-TooManyPackets.ensures.cause in
    record { cause = λ options asks. past_settled _ _ _ c.say.result c.say.ensures.status (c.args.asked.now, asks, past) kept }

pub returns-in-Err-OutOfMemory : goal.returns-in-Err-OutOfMemory
returns-in-Err-OutOfMemory g c =
    let out = (g.O.Sink.state c.args.out.now).held in
    let kept : Keeps out out = search rules in
    record { cause = λ options asks. memory_settled _ _ _ c.say_no_memory.result c.say_no_memory.ensures.status kept }

pub returns : goal.returns
returns g c =
    let writes = subst (WritesStorm c.args.asked.now) (sym c.as_slice.ensures.value) c.in-Ok.ensures.ok in
    record { cause = λ options asks. schedule_told _ _ _ c.write_or_say.result c.args.asked.now c.as_slice.result.now c.write_or_say.ensures asks writes }
