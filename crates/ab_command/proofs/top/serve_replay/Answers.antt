use Rattle.std.proofs.Common.{List, ℕ, sym, subst, rules}
use Rattle.std.specs.Io.KnownBytes.{Keeps}
use Rattle.ab_command.specs.Endings.{HasInput}
use Rattle.ab_command.proofs.StatusLemmas.{replay_settled, report_told}
use Rattle.ab_replay.specs.Replays.{Replays}
use Rattle.ab_command.proofs.top.serve_replay.Goals as goal

pub returns-in-Err : goal.returns-in-Err
returns-in-Err g c =
    let out = (g.O.Sink.state c.args.out.now).held in
    let kept : Keeps out out = search rules in
    record { cause = λ words link clock is. replay_settled _ c.say_replay_fault.result c.in-Err.fault c.say_replay_fault.ensures.status is c.in-Err.ensures.cause kept }

pub returns : goal.returns
returns g c =
    let replayed = c.in-Ok.replayed in
    let spelled = subst (λ (report : List ℕ). HasInput (λ text. Replays text report replayed.held) (g.I.Source.state c.args.input.now).left) (sym c.as_slice.ensures.value) c.in-Ok.ensures.ok in
    record { cause = λ words link clock is. report_told _ c.write_or_say.result c.done-status.result c.as_slice.result.now replayed.held c.write_or_say.ensures c.done-status.ensures is spelled }
