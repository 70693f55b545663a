use Rattle.std.proofs.Common.{sym, subst}
use Rattle.ab_party.specs.Cues.{cue_of}
use Rattle.ab_party.specs.Parties.{IsClientOf}
use Rattle.ab_node.specs.Clients.{ClientMember, Does}
use Rattle.ab_node.proofs.MemberLemmas.{does}
use Rattle.ab_node.proofs.client_member.ClientMember.hear.Goals as goal

pub hear_client-requires-clause-own : goal.hear_client-requires-clause-own
hear_client-requires-clause-own c = subst (λ k. IsClientOf k c.self.inside.client) (sym c.lend-keys.ensures) c.self.invariant

pub invariant_of-self-2 : goal.invariant_of-self-2
invariant_of-self-2 c = subst (λ k. IsClientOf k c.hear_client.new.client) c.lend-keys.ensures c.in_ok-effects.ensures.own

pub returns-clause-does : goal.returns-clause-does
returns-clause-does c =
    let m : ClientMember = record { seat = c.self.inside.client; credentials = c.self.inside.keys } in
    let e = c.in_ok-effects.effects in
    subst (λ n. Does n (cue_of c.args.cue) (record { seat = c.hear_client.new.client; credentials = c.self.inside.keys }) e.outs e.marks.items) c.self.view_is
    (does m c.lend-keys.result c.lend-keys.ensures (cue_of c.args.cue) c.hear_client.new.client e.outs e.marks.items e.spent c.in_ok-effects.ensures.own c.in_ok-effects.ensures.hears c.in_ok-effects.ensures.drafts)
