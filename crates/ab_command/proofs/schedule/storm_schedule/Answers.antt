use Rattle.ab_num.proofs.Results.{kept_err}
use Rattle.ab_replay.proofs.TextLemmas.{all_served}
use Rattle.ab_storm.specs.Runs.{StormCause}
use Rattle.ab_command.specs.Statuses.{kv}
use Rattle.ab_command.proofs.OfStorm.{of_storm}
use Rattle.ab_command.proofs.schedule.storm_schedule.Goals as goal

pub storm_events-requires-clause-served : goal.storm_events-requires-clause-served
storm_events-requires-clause-served c = λ i one. all_served c.args.asked.now.plan i

pub returns-clause-ok : goal.returns-clause-ok
returns-clause-ok c =
    of_storm c.args.asked.now c.cluster.result.now c.in_ok-events.events _ (record { f = c.cluster.ensures.f; clients = c.cluster.ensures.clients; plan = c.cluster.ensures.plan; every = c.cluster.ensures.every }) c.in_ok-events.ensures.ok c.schedule_in.ensures

pub returns-in_err-events-clause-cause : goal.returns-in_err-events-clause-cause
returns-in_err-events-clause-cause c =
    kept_err c.from_residual.result c.in_err-events.field-0.0 (λ e. StormCause kv e c.args.asked.now) c.from_residual.ensures.1 c.in_err-events.ensures.cause
