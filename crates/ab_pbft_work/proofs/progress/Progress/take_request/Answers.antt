use Rattle.ab_pbft_rules.specs.Rules.{keep_request}
use Rattle.ab_pbft_work.proofs.progress.Progress.take_request.Goals as goal

pub returns : goal.returns
returns c = λ w shows. c.in_ok-propose.ensures (keep_request c.args.m w) (c.in_ok-keep_request.ensures w shows)
