use Rattle.std.proofs.Common.{◌≡◌, List, Ok, subst}
use Rattle.ab_text.specs.declared.event.Event.{Event}
use Rattle.ab_text.specs.Schedules.{script_of}
use Rattle.ab_replay.specs.Replays.{run_in, EventsCause}
use Rattle.ab_replay.proofs.running.perform.Goals as goal

pub tell-told-requires-clause-runs : goal.tell-told-requires-clause-runs
tell-told-requires-clause-runs g c =
    let head = c.args.schedule.now.head in
    subst (λ (es : List Event). run_in g.P.Protocol.proto head.cluster (script_of head es) ≡ Ok c.in-Ok.played.world) c.as_slice.ensures c.in-Ok.ensures.ok

pub returns-in-Err-clause-cause : goal.returns-in-Err-clause-cause
returns-in-Err-clause-cause g c =
    let head = c.args.schedule.now.head in
    subst (λ (es : List Event). EventsCause c.in-Err.fault c.args.line (run_in g.P.Protocol.proto head.cluster (script_of head es))) c.as_slice.ensures c.in-Err.ensures.cause
