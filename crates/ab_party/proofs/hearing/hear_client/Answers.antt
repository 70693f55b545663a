use Rattle.std.proofs.Common.{◌≡◌, [], ◌∷◌, IsOkAnd, sym, ap, subst}
use Rattle.std.specs.Prelude.{IfOk}
use Rattle.ab_wire.specs.Views.{message}
use Rattle.ab_abs.specs.declared.seen.Seen.{Seen}
use Rattle.ab_run.specs.Local.{Cue, cue_message, cue_time}
use Rattle.ab_party.specs.Cues.{cue_of}
use Rattle.ab_party.specs.Parties.{ClientHears}
use Rattle.ab_party.proofs.ClientLemmas.{message_commits, unspent_drafts, unspent_err, unspent_hears, unspent_own, unspent_shows}
use Rattle.ab_party.proofs.hearing.hear_client.Goals as goal

pub returns-in-Message-clause-hears : goal.returns-in-Message-clause-hears
returns-in-Message-clause-hears c =
    let s = c.args.client.now in
    subst (λ (q : Cue). IfOk c.unspent.result (λ e. ClientHears s q c.on.new.self e.outs e.marks.items e.spent)) (sym (ap cue_of c.in-Message.is))
    (unspent_hears c.on.result s (cue_message (message c.in-Message.m)) c.on.new.self c.unspent.result c.unspent.ensures c.on.ensures.client c.on.ensures.outs c.on.ensures.marks c.on.ensures.stamp)

pub returns-in-Message-clause-at_once : goal.returns-in-Message-clause-at_once
returns-in-Message-clause-at_once c seen commits =
    message_commits c.args.client.now (cue_of c.args.cue) seen (message c.in-Message.m) (ap cue_of c.in-Message.is) (IsOkAnd c.unspent.result (λ e. e.marks.items ≡ seen ∷ []))
    (λ r b last is. unspent_shows c.on.result c.unspent.result (seen ∷ []) c.unspent.ensures
    (subst (λ (q : Seen). IsOkAnd c.on.result (λ o. o.1.items ≡ q ∷ [])) (sym is) (c.on.ensures.at_once r b last))) commits

pub returns-in-Message-clause-own : goal.returns-in-Message-clause-own
returns-in-Message-clause-own c =
    unspent_own c.on.result c.args.client.now (cue_message (message c.in-Message.m)) c.on.new.self c.args.keys.now c.requires.own c.unspent.result c.unspent.ensures c.on.ensures.client

pub returns-in-Message-clause-drafts : goal.returns-in-Message-clause-drafts
returns-in-Message-clause-drafts c = unspent_drafts c.on.result c.args.keys.now c.args.client.now c.requires.own c.unspent.result c.unspent.ensures c.on.ensures.drafts

pub returns-in-Message-clause-err : goal.returns-in-Message-clause-err
returns-in-Message-clause-err c = unspent_err c.on.result _ c.unspent.result c.unspent.ensures c.on.ensures.err

pub returns-in-Time-clause-hears : goal.returns-in-Time-clause-hears
returns-in-Time-clause-hears c =
    let s = c.args.client.now in
    subst (λ (q : Cue). IfOk c.unspent-in-Time.result (λ e. ClientHears s q c.timeout.new.self e.outs e.marks.items e.spent)) (sym (ap cue_of c.in-Time.is))
    (unspent_hears c.timeout.result s cue_time c.timeout.new.self c.unspent-in-Time.result c.unspent-in-Time.ensures c.timeout.ensures.client c.timeout.ensures.outs c.timeout.ensures.marks c.timeout.ensures.stamp)

pub returns-in-Time-clause-own : goal.returns-in-Time-clause-own
returns-in-Time-clause-own c =
    unspent_own c.timeout.result c.args.client.now cue_time c.timeout.new.self c.args.keys.now c.requires.own c.unspent-in-Time.result c.unspent-in-Time.ensures c.timeout.ensures.client

pub returns-in-Time-clause-drafts : goal.returns-in-Time-clause-drafts
returns-in-Time-clause-drafts c = unspent_drafts c.timeout.result c.args.keys.now c.args.client.now c.requires.own c.unspent-in-Time.result c.unspent-in-Time.ensures c.timeout.ensures.drafts

pub returns-in-Time-clause-err : goal.returns-in-Time-clause-err
returns-in-Time-clause-err c = unspent_err c.timeout.result _ c.unspent-in-Time.result c.unspent-in-Time.ensures c.timeout.ensures.err
