use Rattle.ab_sign.specs.Judges.{judge_of}
use Rattle.ab_node.specs.Locality.{all_happens}
use Rattle.ab_node.proofs.FormedLemmas.{all_formed}
use Rattle.ab_node.proofs.laws.members_are_ordered.Goals as goal

pub returns-clause-ordered : goal.returns-clause-ordered
returns-clause-ordered g c = λ k w xs serves premises.
    let proto = g.P.Protocol.proto in
    let opens = c.opened_messages_are_of_the_grammar.ensures in
    let formed = all_formed k (λ x bytes m are is. (opens.grammar (judge_of x.ring x.keys) x.ring.f x.ring.clients x.every x.ring.me bytes m are is).0) opens.histories proto w xs in
    c.run_is_ordered.ensures.ordered k (all_happens proto w xs) serves formed premises

pub returns-clause-instances : goal.returns-clause-instances
returns-clause-instances g c = λ k w xs serves premises.
    let proto = g.P.Protocol.proto in
    let opens = c.opened_messages_are_of_the_grammar.ensures in
    let formed = all_formed k (λ x bytes m are is. (opens.grammar (judge_of x.ring x.keys) x.ring.f x.ring.clients x.every x.ring.me bytes m are is).0) opens.histories proto w xs in
    c.run_is_ordered.ensures.instances k (all_happens proto w xs) serves formed premises
