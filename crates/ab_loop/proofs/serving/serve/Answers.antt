use Rattle.std.proofs.Common.{[], refl}
use Rattle.ab_num.proofs.Results.{if_ok_map, if_err_map}
use Rattle.ab_loop.specs.Edges.{LeavesFront, edge, keep_state}
use Rattle.ab_loop.specs.Runs.{HasServed, HasFaultOf}
use Rattle.ab_loop.proofs.CrashLemmas.{crash_rests}
use Rattle.ab_loop.proofs.ExitLemmas.{none_exits, result_exits}
use Rattle.ab_loop.proofs.FollowsLemmas.{rises_same}
use Rattle.ab_loop.proofs.ServeLemmas.{nothing_done, not_opened, answers_opened, fails_opened, same_start}
use Rattle.ab_loop.proofs.serving.serve.Goals as goal

pub returns-in_default-clause-err : goal.returns-in_default-clause-err
returns-in_default-clause-err g c = nothing_done _ _ _ _ _ _
    (crash_rests g.D.Disk.model g.J.Keeper.list_of (g.J.Keeper.kept c.args.keeper.now c.args.disk.now) c.args.disk.now [] (λ x. g.met.D.Disk.only_now c.args.disk.now x)
    (λ x may. g.met.J.Keeper.kept_is_left c.args.keeper.now c.args.disk.now x c.requires may)) refl refl (rises_same _, tt)

pub returns-in-Err-clause-err : goal.returns-in-Err-clause-err
returns-in-Err-clause-err g c = not_opened _ _ _ _ _ _ _ _
    (crash_rests g.D.Disk.model g.J.Keeper.list_of (g.J.Keeper.kept c.args.keeper.now c.args.disk.now) c.args.disk.now [] (λ x. g.met.D.Disk.only_now c.args.disk.now x)
    (λ x may. g.met.J.Keeper.kept_is_left c.args.keeper.now c.args.disk.now x c.requires may))
    refl c.open.ensures.to_come c.open.ensures.sent c.open.ensures.losses c.in-Err.ensures.later c.in-Err.ensures.failed

pub returns-in-Ok-open-clause-ok : goal.returns-in-Ok-open-clause-ok
returns-in-Ok-open-clause-ok g c =
    let out = g.O.Sink.state c.args.out.now in
    let link = g.L.Link.state c.args.link.now in
    let opened = g.L.Link.state c.open.new.self in
    let keep = keep_state g.D.Disk.model g.J.Keeper.kept c.args.keeper.now c.args.disk.now in
    let clock = (g.C.Clock.state c.run.new.clock).readings in
    let end = edge (g.O.Sink.state c.run.new.out) (g.L.Link.state c.run.new.link) (keep_state g.D.Disk.model g.J.Keeper.kept c.run.new.keeper c.run.new.disk) in
    let crash = LeavesFront g.D.Disk.model g.J.Keeper.list_of (g.J.Keeper.kept c.args.keeper.now c.args.disk.now) c.args.disk.now c.run.new.disk in
    if_ok_map _ (λ served a. answers_opened _ _ out link opened keep end crash clock c.open.ensures.sent c.open.ensures.losses c.in-Ok-open.ensures.later served
    (same_start (λ x. HasServed g.K.PartyCore.rules x (edge out opened keep) end crash clock served) _ _ _ _ _ (g.C.Clock.state c.args.clock.now) link opened c.open.ensures.to_come a)) c.run.ensures.ok

pub returns-in-Ok-open-clause-err : goal.returns-in-Ok-open-clause-err
returns-in-Ok-open-clause-err g c =
    let out = g.O.Sink.state c.args.out.now in
    let link = g.L.Link.state c.args.link.now in
    let opened = g.L.Link.state c.open.new.self in
    let keep = keep_state g.D.Disk.model g.J.Keeper.kept c.args.keeper.now c.args.disk.now in
    let clock = (g.C.Clock.state c.run.new.clock).readings in
    let end = edge (g.O.Sink.state c.run.new.out) (g.L.Link.state c.run.new.link) (keep_state g.D.Disk.model g.J.Keeper.kept c.run.new.keeper c.run.new.disk) in
    let crash = LeavesFront g.D.Disk.model g.J.Keeper.list_of (g.J.Keeper.kept c.args.keeper.now c.args.disk.now) c.args.disk.now c.run.new.disk in
    if_err_map _ (λ why a. fails_opened _ _ out link opened keep end crash clock c.open.ensures.sent c.open.ensures.losses c.in-Ok-open.ensures.later why
    (same_start (λ x. HasFaultOf g.K.PartyCore.rules x (edge out opened keep) end crash clock why) _ _ _ _ _ (g.C.Clock.state c.args.clock.now) link opened c.open.ensures.to_come a)) c.run.ensures.err

pub returns-in_default-clause-exit : goal.returns-in_default-clause-exit
returns-in_default-clause-exit g c = none_exits _ _ _ _ refl refl refl

pub returns-in-Err-clause-exit : goal.returns-in-Err-clause-exit
returns-in-Err-clause-exit g c = none_exits _ _ _ _ refl c.open.ensures.sent refl

pub returns-in-Ok-open-clause-exit : goal.returns-in-Ok-open-clause-exit
returns-in-Ok-open-clause-exit g c = result_exits _ _ _ _ _ _ c.run.result (returns-in-Ok-open-clause-ok g c) (returns-in-Ok-open-clause-err g c)
