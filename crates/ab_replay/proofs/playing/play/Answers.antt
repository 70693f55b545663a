use Rattle.std.proofs.Common.{◌≡◌, Ok, ap, ◌∙◌, refl, subst, sym}
use Rattle.ab_text.specs.Schedules.{script_of}
use Rattle.ab_world.specs.Runs.{outcome}
use Rattle.ab_replay.specs.Replays.{counts_of, run_in, EventsCause}
use Rattle.ab_replay.proofs.RunLemmas.{begins_so, runs_schedule}
use Rattle.ab_replay.proofs.playing.play.Goals as goal

pub returns-in-Ok-clause-ok : goal.returns-in-Ok-clause-ok
returns-in-Ok-clause-ok g c =
    let proto = g.P.Protocol.proto in
    let head = c.args.head.now in
    let events = c.args.events.now in
    let w = c.in_ok-world.world in
    let begins = begins_so proto head events c.as_slice.result.now c.in_ok-setup.setup w c.as_slice.ensures c.in_ok-setup.ensures c.in_ok-world.ensures in
    runs_schedule proto head events events w (Ok c.step_through.new.world) begins refl c.in-Ok.ensures.ok

pub returns-in-Ok-clause-counts : goal.returns-in-Ok-clause-counts
returns-in-Ok-clause-counts g c =
    let proto = g.P.Protocol.proto in
    let head = c.args.head.now in
    let events = c.args.events.now in
    let w = c.in_ok-world.world in
    let begins = begins_so proto head events c.as_slice.result.now c.in_ok-setup.setup w c.as_slice.ensures c.in_ok-setup.ensures c.in_ok-world.ensures in
    c.in-Ok.ensures.counts ∙ ap (λ v. counts_of proto v events) begins

pub returns-in-Err-clause-cause : goal.returns-in-Err-clause-cause
returns-in-Err-clause-cause g c =
    let proto = g.P.Protocol.proto in
    let head = c.args.head.now in
    let events = c.args.events.now in
    let w = c.in_ok-world.world in
    let begins = begins_so proto head events c.as_slice.result.now c.in_ok-setup.setup w c.as_slice.ensures c.in_ok-setup.ensures c.in_ok-world.ensures in
    let same : run_in proto head.cluster (script_of head events) ≡ outcome proto 1 w events = runs_schedule proto head events events w (outcome proto 1 w events) begins refl refl in
    subst (EventsCause c.in-Err.fault c.args.line) (sym same) c.in-Err.ensures.cause
