use Rattle.ab_trial.proofs.TrialLemmas.{served_more}
use Rattle.ab_trial.proofs.trial.Trial.serve.Goals as goal

pub returns-clause-kept : goal.returns-clause-kept
returns-clause-kept g c = served_more g.S.Service.machine c.args.log.now c.args.self.now.served c.args.self.now.state c.apply.new.self c.at.result.now c.requires.served c.requires.more c.at.ensures c.in_ok-_reply.ensures.ok.0
