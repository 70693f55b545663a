use Rattle.std.proofs.Common.{List, ℕ, sym, subst, rules}
use Rattle.std.specs.Io.KnownBytes.{Keeps}
use Rattle.ab_audit.specs.Tellings.{Audits}
use Rattle.ab_command.specs.Endings.{HasInput}
use Rattle.ab_command.proofs.AuditStatuses.{audit_settled, audit_told}
use Rattle.ab_command.proofs.top.serve_audit.Goals as goal

pub returns-in-Err : goal.returns-in-Err
returns-in-Err g c =
    let out = (g.O.Sink.state c.args.out.now).held in
    let kept : Keeps out out = search rules in
    record { cause = λ words link clock is. audit_settled _ c.say_replay_fault.result c.in-Err.fault c.say_replay_fault.ensures.status (c.args.why, is) c.in-Err.ensures.cause kept }

pub returns : goal.returns
returns g c =
    let audited = c.in-Ok.audited in
    let spelled = subst (λ (report : List ℕ). HasInput (λ text. Audits c.args.why text report audited.accuses) (g.I.Source.state c.args.input.now).left) (sym c.as_slice.ensures.value) c.in-Ok.ensures.ok in
    record { cause = λ words link clock is. audit_told _ c.write_or_say.result c.done-status.result c.args.why c.as_slice.result.now audited.accuses c.write_or_say.ensures c.done-status.ensures is spelled }
