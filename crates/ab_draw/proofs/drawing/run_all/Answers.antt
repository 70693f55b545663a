use Rattle.std.proofs.Common.{◌≡◌, ◌≤◌, List, Ok, inr, subst}
use Rattle.ab_text.specs.declared.event.Event.{Event}
use Rattle.ab_text.specs.Schedules.{script_of}
use Rattle.ab_replay.specs.Replays.{run_in, EventsCause}
use Rattle.ab_draw.proofs.drawing.run_all.Goals as goal

pub returns-in-Ok-clause-ok : goal.returns-in-Ok-clause-ok
returns-in-Ok-clause-ok g c =
    let head = c.args.schedule.now.head in
    let end = c.in-Ok.played.world in
    inr (end, subst (λ (es : List Event). run_in g.P.Protocol.proto head.cluster (script_of head es) ≡ Ok end) c.as_slice-events.ensures c.in-Ok.ensures.ok)

pub returns-in-Err-clause-cause : goal.returns-in-Err-clause-cause
returns-in-Err-clause-cause g c =
    let head = c.args.schedule.now.head in
    subst (λ (es : List Event). EventsCause c.in-Err.fault c.args.line (run_in g.P.Protocol.proto head.cluster (script_of head es))) c.as_slice-events.ensures c.in-Err.ensures.cause
