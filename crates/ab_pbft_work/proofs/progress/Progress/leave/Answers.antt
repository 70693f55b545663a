use Rattle.std.proofs.Common.{true}
use Rattle.ab_pbft_work.proofs.TurnLemmas.{leaves_does}
use Rattle.ab_pbft_work.specs.Turns.{memory_of}
use Rattle.ab_pbft_work.proofs.progress.Progress.leave.Goals as goal

pub returns : goal.returns
returns c = λ seat is.
    let b = memory_of c.args.self.now.memory in
    leaves_does c.args.self.now _ c.args.view seat c.args.certs.now c.in_ok-entries.entries is c.in_ok-entries.ensures
    (λ j. record b { peer = record { core = record b.peer.core { view = c.args.view; changing = true; accepted = c.new.ensures j; signed = 0; prepared = 0 }; votes = c.new-2.ensures.items j; commits = c.new-3.ensures.items j } }) c.in_ok-push.ensures.items
