use Rattle.std.proofs.Common.{◌≡◌, ap, ◌∙◌, subst}
use Rattle.ab_wire.specs.Views.{message}
use Rattle.ab_abs.specs.Messages.{IsFormed, took, timed}
use Rattle.ab_party.proofs.ReplicaLemmas.{cue_formed, goes_on, own_drafts, own_run, own_setup_is}
use Rattle.ab_party.specs.Cues.{call_of}
use Rattle.ab_party.proofs.hearing.hear_replica.Goals as goal

pub returns-in-Message-clause-own : goal.returns-in-Message-clause-own
returns-in-Message-clause-own g c =
    let proto = g.P.Protocol.proto in
    let serves = g.P.Protocol.serves in
    let s = c.args.replica.now in
    let keys = c.args.keys.now in
    let made : c.pen-pen.result ≡ record { keys = keys.keys; replica = s.me; used = s.rep.used } = c.pen-pen.ensures s.me c.requires.own.own ∙ ap (λ n. record { keys = keys.keys; replica = s.me; used = n }) c.used.ensures in
    goes_on proto serves keys s c.requires.own g.met.P.Protocol.formed (took (message c.in-Message.m)) (subst IsFormed (ap call_of c.in-Message.is) (cue_formed c.args.cue c.requires.cue)) c.on.new.self c.on.result _ _ _
    (c.on.ensures.hears (own_run proto serves keys s c.requires.own) (own_setup_is proto serves keys s c.requires.own c.pen-pen.result made)) c.on.ensures.pen

pub returns-in-Message-clause-drafts : goal.returns-in-Message-clause-drafts
returns-in-Message-clause-drafts g c =
    let proto = g.P.Protocol.proto in
    let serves = g.P.Protocol.serves in
    let s = c.args.replica.now in
    let keys = c.args.keys.now in
    let made : c.pen-pen.result ≡ record { keys = keys.keys; replica = s.me; used = s.rep.used } = c.pen-pen.ensures s.me c.requires.own.own ∙ ap (λ n. record { keys = keys.keys; replica = s.me; used = n }) c.used.ensures in
    own_drafts proto serves keys s c.requires.own g.met.P.Protocol.formed (took (message c.in-Message.m)) (subst IsFormed (ap call_of c.in-Message.is) (cue_formed c.args.cue c.requires.cue)) c.on.new.self c.on.result
    (c.on.ensures.hears (own_run proto serves keys s c.requires.own) (own_setup_is proto serves keys s c.requires.own c.pen-pen.result made))

pub returns-in-Time-clause-own : goal.returns-in-Time-clause-own
returns-in-Time-clause-own g c =
    let proto = g.P.Protocol.proto in
    let serves = g.P.Protocol.serves in
    let s = c.args.replica.now in
    let keys = c.args.keys.now in
    let made : c.pen-pen.result ≡ record { keys = keys.keys; replica = s.me; used = s.rep.used } = c.pen-pen.ensures s.me c.requires.own.own ∙ ap (λ n. record { keys = keys.keys; replica = s.me; used = n }) c.used.ensures in
    goes_on proto serves keys s c.requires.own g.met.P.Protocol.formed (timed) (subst IsFormed (ap call_of c.in-Time.is) (cue_formed c.args.cue c.requires.cue)) c.timeout.new.self c.timeout.result _ _ _
    (c.timeout.ensures.hears (own_run proto serves keys s c.requires.own) (own_setup_is proto serves keys s c.requires.own c.pen-pen.result made)) c.timeout.ensures.pen

pub returns-in-Time-clause-drafts : goal.returns-in-Time-clause-drafts
returns-in-Time-clause-drafts g c =
    let proto = g.P.Protocol.proto in
    let serves = g.P.Protocol.serves in
    let s = c.args.replica.now in
    let keys = c.args.keys.now in
    let made : c.pen-pen.result ≡ record { keys = keys.keys; replica = s.me; used = s.rep.used } = c.pen-pen.ensures s.me c.requires.own.own ∙ ap (λ n. record { keys = keys.keys; replica = s.me; used = n }) c.used.ensures in
    own_drafts proto serves keys s c.requires.own g.met.P.Protocol.formed (timed) (subst IsFormed (ap call_of c.in-Time.is) (cue_formed c.args.cue c.requires.cue)) c.timeout.new.self c.timeout.result
    (c.timeout.ensures.hears (own_run proto serves keys s c.requires.own) (own_setup_is proto serves keys s c.requires.own c.pen-pen.result made))
