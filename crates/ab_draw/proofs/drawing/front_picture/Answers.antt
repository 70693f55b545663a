use Rattle.std.proofs.Common.{take, ap, ◌∙◌, arith}
use Rattle.ab_draw.specs.Draws.{most_drawn}
use Rattle.ab_draw.proofs.Fronts.{counts_drawn, few_drawn, front_cause, front_is}
use Rattle.ab_draw.proofs.drawing.front_picture.Goals as goal

pub play-requires-clause-few : goal.play-requires-clause-few
play-requires-clause-few g c =
    let few = few_drawn c.as_slice.result.now c.front-events.result.now c.front-events.ensures in
    omega (arith, few)

pub picture_of-picture-requires-clause-events : goal.picture_of-picture-requires-clause-events
picture_of-picture-requires-clause-events g c = few_drawn c.as_slice.result.now c.front-events.result.now c.front-events.ensures

pub picture_of-picture-requires-clause-counts : goal.picture_of-picture-requires-clause-counts
picture_of-picture-requires-clause-counts g c =
    counts_drawn g.P.Protocol.proto c.args.schedule.now.head c.as_slice.result.now c.front-events.result.now c.in-Ok.played.counts.items c.front-events.ensures c.in-Ok.ensures.counts

pub returns-in-Ok-picture-clause-ok : goal.returns-in-Ok-picture-clause-ok
returns-in-Ok-picture-clause-ok g c =
    let head = c.args.schedule.now.head in
    front_is g.P.Protocol.proto head c.args.schedule.now.events c.front-events.result.now c.in-Ok.played.world c.in-Ok.played.counts.items c.in-Ok-picture.picture
    (c.front-events.ensures ∙ ap (λ es. take most_drawn es) c.as_slice.ensures) c.in-Ok.ensures.ok c.in-Ok.ensures.counts c.in-Ok-picture.ensures.picture

pub returns-in-Ok-picture-clause-few : goal.returns-in-Ok-picture-clause-few
returns-in-Ok-picture-clause-few g c =
    let few = few_drawn c.as_slice.result.now c.front-events.result.now c.front-events.ensures in
    omega (arith, c.in-Ok-picture.ensures.count, few)

pub returns-in-Err-clause-cause : goal.returns-in-Err-clause-cause
returns-in-Err-clause-cause g c =
    let head = c.args.schedule.now.head in
    front_cause g.P.Protocol.proto c.in-Err.fault c.args.line head c.args.schedule.now.events c.front-events.result.now
    (c.front-events.ensures ∙ ap (λ es. take most_drawn es) c.as_slice.ensures) c.in-Err.ensures.cause
