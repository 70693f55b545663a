use Rattle.std.proofs.Common.{List, ℕ, subst, sym}
use Rattle.ab_num.proofs.Results.{kept_err}
use Rattle.ab_text.specs.Schedules.{script_of}
use Rattle.ab_text.specs.Spelling.{IsSpelled}
use Rattle.ab_storm.specs.declared.running.StormFault.TheVariants.{OutOfMemory}
use Rattle.ab_storm.specs.Runs.{StormCause}
use Rattle.ab_command.specs.Statuses.{kv}
use Rattle.ab_command.proofs.schedule.storm_text.Goals as goal

pub returns-clause-ok : goal.returns-clause-ok
returns-clause-ok c =
    let s = script_of c.in_ok-schedule.schedule.head c.in_ok-schedule.schedule.events in
    let storm = c.in_ok-schedule.ensures.ok in
    let text = c.in_ok-write_schedule.ensures in
    record { schedule = s; storm = storm; is = text; spelled = subst (λ (t : List ℕ). IsSpelled t s) (sym text) (c.written_is_spelled.ensures s storm.grammar) }

pub returns-in_err-schedule-clause-cause : goal.returns-in_err-schedule-clause-cause
returns-in_err-schedule-clause-cause c =
    kept_err c.from_residual.result c.in_err-schedule.field-0.0 (λ e. StormCause kv e c.args.asked.now) c.from_residual.ensures.1 c.in_err-schedule.ensures.cause

pub returns-in_err-write_schedule-clause-cause : goal.returns-in_err-write_schedule-clause-cause
returns-in_err-write_schedule-clause-cause c =
    kept_err c.from_residual-in_err-write_schedule.result OutOfMemory (λ e. StormCause kv e c.args.asked.now) c.from_residual-in_err-write_schedule.ensures.1 tt
