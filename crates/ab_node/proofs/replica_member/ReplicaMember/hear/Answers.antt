use Rattle.std.proofs.Common.{All, sym, ap, ◌∙◌, subst}
use Rattle.ab_run.specs.Forms.{IsDraftOf}
use Rattle.ab_run.specs.Local.{rep_sends}
use Rattle.ab_run.specs.Replicas.{is_spent}
use Rattle.ab_party.specs.Credentials.{Credentials}
use Rattle.ab_party.specs.Cues.{call_of}
use Rattle.ab_party.specs.Parties.{IsReplicaOf}
use Rattle.ab_node.specs.Replicas.{ReplicaMember, own_setup, replica_after}
use Rattle.ab_node.proofs.MemberLemmas.{goes_on, own_hears}
use Rattle.ab_node.proofs.replica_member.ReplicaMember.hear.Goals as goal

pub hear_replica-requires-clause-own : goal.hear_replica-requires-clause-own
hear_replica-requires-clause-own g c = subst (λ k. IsReplicaOf g.P.Protocol.proto g.P.Protocol.serves k c.self.inside.replica) (sym c.lend-keys.ensures) c.self.invariant

pub invariant_of-self-2 : goal.invariant_of-self-2
invariant_of-self-2 g c = subst (λ k. IsReplicaOf g.P.Protocol.proto g.P.Protocol.serves k c.hear_replica.new.replica) c.lend-keys.ensures c.in_ok-effects.ensures.own

pub returns-clause-after : goal.returns-clause-after
returns-clause-after g c =
    let m : ReplicaMember g.row.P.Denot = record { site = c.self.inside.replica; credentials = c.self.inside.keys } in
    let call = call_of c.args.cue in
    let e = c.in_ok-effects.effects in
    goes_on g.P.Protocol.proto m c.lend-keys.result c.lend-keys.ensures call c.hear_replica.new.replica e.outs e.marks.items e.spent c.in_ok-effects.ensures.hears
    ∙ ap (λ n. replica_after g.P.Protocol.proto n call) c.self.view_is

pub returns-clause-outs : goal.returns-clause-outs
returns-clause-outs g c =
    let m : ReplicaMember g.row.P.Denot = record { site = c.self.inside.replica; credentials = c.self.inside.keys } in
    let call = call_of c.args.cue in
    let e = c.in_ok-effects.effects in
    (own_hears g.P.Protocol.proto m c.lend-keys.result c.lend-keys.ensures call c.hear_replica.new.replica e.outs e.marks.items e.spent c.in_ok-effects.ensures.hears).sends
    ∙ ap (λ n. rep_sends (own_setup n) g.P.Protocol.proto n.site.me n.site.rep call) c.self.view_is

pub returns-clause-spent : goal.returns-clause-spent
returns-clause-spent g c =
    let m : ReplicaMember g.row.P.Denot = record { site = c.self.inside.replica; credentials = c.self.inside.keys } in
    let call = call_of c.args.cue in
    let e = c.in_ok-effects.effects in
    (own_hears g.P.Protocol.proto m c.lend-keys.result c.lend-keys.ensures call c.hear_replica.new.replica e.outs e.marks.items e.spent c.in_ok-effects.ensures.hears).spends
    ∙ ap (λ n. is_spent (own_setup n) g.P.Protocol.proto n.site.me n.site.rep call) c.self.view_is

pub returns-clause-drafts : goal.returns-clause-drafts
returns-clause-drafts g c =
    let e = c.in_ok-effects.effects in
    subst (λ (k : Credentials). All (IsDraftOf k.ring.f k.ring.me) e.outs) (c.lend-keys.ensures ∙ ap (λ n. n.credentials) c.self.view_is) c.in_ok-effects.ensures.drafts
