use Rattle.ab_wire.specs.Views.{message}
use Rattle.ab_client.proofs.AnswerLemmas.{marks_at_once}
use Rattle.ab_client.proofs.client.Client.on.Goals as goal

pub returns-clause-at_once : goal.returns-clause-at_once
returns-clause-at_once c m b is = marks_at_once c.args.self.now (message c.args.msg) c.hear.new.self c.hear.result m b c.hear.ensures.ok c.hear.ensures.answered is
