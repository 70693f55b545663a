use Rattle.std.proofs.Common.{rules}
use Rattle.std.specs.Io.KnownBytes.{Keeps}
use Rattle.ab_words.specs.Uses.{texts}
use Rattle.ab_command.specs.ScheduleEndings.{Asks}
use Rattle.ab_command.proofs.ScheduleSettled.{memory_settled, usage_settled}
use Rattle.ab_command.proofs.schedule_top.serve.Goals as goal

pub returns-in-Ok-Some : goal.returns-in-Ok-Some
returns-in-Ok-Some g c =
    let options = texts c.args.options.now in
    let asks : Asks options c.in-Ok-Some.asked = rw c.in-Ok-Some.field-0-is at c.in-Ok-Some.ensures.found in
    record { cause = c.serve_storm.ensures.cause options asks }

pub returns-in-Ok-None : goal.returns-in-Ok-None
returns-in-Ok-None g c =
    let out = (g.O.Sink.state c.args.out.now).held in
    let kept : Keeps out out = search rules in
    record { cause = usage_settled _ _ _ c.say_usage.result c.say_usage.ensures (c.in-Ok-None.ensures.none c.in-Ok-None.field-0-is) kept }

pub returns-in-Err : goal.returns-in-Err
returns-in-Err g c =
    let out = (g.O.Sink.state c.args.out.now).held in
    let kept : Keeps out out = search rules in
    record { cause = memory_settled _ _ _ c.say_no_memory.result c.say_no_memory.ensures.status kept }
