use Rattle.ab_num.proofs.Results.{kept_err}
use Rattle.ab_replay.specs.declared.fault.ReplayFault.TheVariants.{OutOfMemory}
use Rattle.ab_replay.specs.Replays.{run_in, EventsCause}
use Rattle.ab_text.specs.Schedules.{script_of}
use Rattle.ab_draw.proofs.Fronts.{whole_run}
use Rattle.ab_draw.proofs.drawing.perform.Goals as goal

pub returns-clause-ok : goal.returns-clause-ok
returns-clause-ok g c =
    let head = c.args.schedule.now.head in
    let events = c.args.schedule.now.events in
    let picture = c.in_ok-picture.picture in
    record {
      picture = picture;
      pictures = whole_run g.P.Protocol.proto head events picture c.in_ok-picture.ensures.ok c.in_ok-run_all.ensures.ok;
      shows = c.in_ok-svg.ensures;
    }

pub returns-in_err-svg-clause-cause : goal.returns-in_err-svg-clause-cause
returns-in_err-svg-clause-cause g c =
    let head = c.args.schedule.now.head in
    let s = script_of head c.args.schedule.now.events in
    kept_err c.from_residual-in_err-svg.result OutOfMemory (λ e. EventsCause e c.args.line (run_in g.P.Protocol.proto head.cluster s)) c.from_residual-in_err-svg.ensures.1 tt
