use Rattle.std.proofs.Common.{refl}
use Rattle.ab_pbft_work.proofs.TurnLemmas.{accepts_does}
use Rattle.ab_pbft_work.specs.Turns.{memory_of}
use Rattle.ab_pbft_work.proofs.progress.Progress.accept.Goals as goal

pub returns : goal.returns
returns c =
    let b = memory_of c.args.self.now.memory in
    accepts_does c.args.self.now _ c.args.value (λ j. record b { peer = record b.peer { core = record b.peer.core { accepted = c.in_ok-push.ensures j } } }) refl
