use Rattle.ab_num.proofs.Results.{if_ok_map}
use Rattle.ab_piece.specs.Joining.{answer_of}
use Rattle.ab_loop.proofs.JoinLemmas.{answers_short, joins_on}
use Rattle.ab_loop.proofs.node.Node.join.Goals as goal

pub invariant_of-self : goal.invariant_of-self
invariant_of-self g c = (c.self.invariant.0, joins_on c.take.result c.self.inside.joiner _ c.args.datagram.now c.take.ensures.after c.take.ensures.err c.self.invariant.1)

pub returns-clause-short : goal.returns-clause-short
returns-clause-short g c = if_ok_map c.take.result (λ taken is. answers_short c.self.inside.joiner c.args.datagram.now (answer_of taken) c.self.invariant.1 is) c.take.ensures.answer
