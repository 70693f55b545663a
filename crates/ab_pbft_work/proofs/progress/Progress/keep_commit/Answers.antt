use Rattle.std.proofs.Common.{refl}
use Rattle.ab_pbft_work.proofs.TurnLemmas.{commits_does}
use Rattle.ab_pbft_work.specs.Turns.{memory_of}
use Rattle.ab_pbft_work.proofs.progress.Progress.keep_commit.Goals as goal

pub returns : goal.returns
returns c =
    let b = memory_of c.args.self.now.memory in
    commits_does c.args.self.now _ c.args.vote (λ j. record b { peer = record b.peer { commits = c.in_ok-keep.ensures j } }) refl
