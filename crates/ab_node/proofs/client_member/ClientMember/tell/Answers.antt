use Rattle.std.proofs.Common.{sym, subst}
use Rattle.ab_client.specs.Clients.{told}
use Rattle.ab_party.specs.Parties.{IsClientOf}
use Rattle.ab_node.specs.Clients.{ClientMember, Does}
use Rattle.ab_node.proofs.MemberLemmas.{does}
use Rattle.ab_node.proofs.client_member.ClientMember.tell.Goals as goal

pub tell-requires-clause-own : goal.tell-requires-clause-own
tell-requires-clause-own c = subst (λ k. IsClientOf k c.self.inside.client) (sym c.lend-keys.ensures) c.self.invariant

pub invariant_of-self-2 : goal.invariant_of-self-2
invariant_of-self-2 c = subst (λ k. IsClientOf k c.tell.new.client) c.lend-keys.ensures c.in_ok-effects.ensures.own

pub returns-clause-does : goal.returns-clause-does
returns-clause-does c =
    let m : ClientMember = record { seat = c.self.inside.client; credentials = c.self.inside.keys } in
    let e = c.in_ok-effects.effects in
    subst (λ n. Does n (told c.args.command.now) (record { seat = c.tell.new.client; credentials = c.self.inside.keys }) e.outs e.marks.items) c.self.view_is
    (does m c.lend-keys.result c.lend-keys.ensures (told c.args.command.now) c.tell.new.client e.outs e.marks.items e.spent c.in_ok-effects.ensures.own c.in_ok-effects.ensures.hears c.in_ok-effects.ensures.drafts)
