use Rattle.std.proofs.Common.{refl}
use Rattle.ab_pbft_work.proofs.TurnLemmas.{requests_does}
use Rattle.ab_pbft_work.specs.Turns.{memory_of}
use Rattle.ab_pbft_work.proofs.progress.Progress.keep_request.Goals as goal

pub returns : goal.returns
returns c =
    let b = memory_of c.args.self.now.memory in
    requests_does c.args.self.now _ c.args.m (λ j. record b { requests = c.in_ok-keep.ensures j }) refl
