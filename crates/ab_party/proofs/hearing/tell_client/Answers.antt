use Rattle.std.proofs.Common.{All, length, arith, refl, sym, ◌∙◌, subst}
use Rattle.ab_run.specs.Forms.{IsDraftOf}
use Rattle.ab_client.specs.declared.client.InvokeFault.{InvokeFault}
use Rattle.ab_client.specs.Clients.{InvokeCause, told}
use Rattle.ab_party.proofs.ClientLemmas.{busy_refuses, client_drafts, client_stays, idle_takes}
use Rattle.ab_party.proofs.hearing.tell_client.Goals as goal

pub returns-in-Ok-clause-hears : goal.returns-in-Ok-clause-hears
returns-in-Ok-clause-hears c =
    let says = c.in-Ok.ensures in
    record { after = says.client; sends = c.of.ensures ∙ says.outs; shows = says.marks; stamp = omega (arith, says.stamp); spends = refl }

pub returns-in-Ok-clause-idle : goal.returns-in-Ok-clause-idle
returns-in-Ok-clause-idle c = idle_takes c.args.client.now c.in-Ok.ensures.idle

pub returns-in-Ok-clause-own : goal.returns-in-Ok-clause-own
returns-in-Ok-clause-own c = client_stays c.args.keys.now c.args.client.now c.requires.own (told c.args.command.now) c.invoke.new.self c.in-Ok.ensures.client

pub returns-in-Ok-clause-drafts : goal.returns-in-Ok-clause-drafts
returns-in-Ok-clause-drafts c =
    let keys = c.args.keys.now in
    subst (All (IsDraftOf keys.ring.f keys.ring.me)) (sym c.of.ensures) (client_drafts keys c.args.client.now c.requires.own c.in-Ok.outs c.in-Ok.ensures.drafts)

pub returns-in-Err-Busy-clause-cause : goal.returns-in-Err-Busy-clause-cause
returns-in-Err-Busy-clause-cause c =
    let s = c.args.client.now in
    busy_refuses s (subst (λ (d : InvokeFault). InvokeCause d s.cli.phase (length c.args.command.now)) c.in-Err-Busy.field-0-is c.in-Err-Busy.ensures.cause)

pub returns-in-Err-OutOfMemory-clause-cause : goal.returns-in-Err-OutOfMemory-clause-cause
returns-in-Err-OutOfMemory-clause-cause c =
    let s = c.args.client.now in
    let cause = subst (λ (d : InvokeFault). InvokeCause d s.cli.phase (length c.args.command.now)) c.in-Err-OutOfMemory.field-0-is c.in-Err-OutOfMemory.ensures.cause in
    idle_takes s cause.0
