use Rattle.std.proofs.Common.{refl}
use Rattle.ab_pbft_work.proofs.TurnLemmas.{enters_does}
use Rattle.ab_pbft_work.specs.Turns.{memory_of}
use Rattle.ab_pbft_work.proofs.progress.Progress.enter.Goals as goal

pub returns : goal.returns
returns c = λ seat vcs is. enters_does c.args.self.now _ c.args.view seat vcs (memory_of c.drop_votes_below.new.self) c.args.accepted c.drop_votes_below.ensures is refl c.in_ok-push.ensures.items
