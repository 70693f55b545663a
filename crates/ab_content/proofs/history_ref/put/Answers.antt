use Rattle.ab_content.specs.Views.{request}
use Rattle.ab_content.proofs.OwnLemmas.{one_more}
use Rattle.ab_content.proofs.history_ref.put.Goals as goal

pub returns-then-is-clause-front : goal.returns-then-is-clause-front
returns-then-is-clause-front c = one_more c.args.own.now c.args.n (request c.args.m) c.at.result.now c.at.ensures (c.is.ensures c.if-is.true)
