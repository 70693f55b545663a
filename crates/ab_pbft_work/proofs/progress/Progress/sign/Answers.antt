use Rattle.std.proofs.Common.{◌≡◌, ◌∙◌, ◌+◌, suc, ap, arith}
use Rattle.ab_lock.specs.Steps.{signs}
use Rattle.ab_lock.specs.Votes.{SlotVote, keep}
use Rattle.std.proofs.Common.{ℕ, List}
use Rattle.ab_pbft_work.proofs.TurnLemmas.{step_does}
use Rattle.ab_pbft_work.specs.Turns.{memory_of}
use Rattle.ab_pbft_work.proofs.progress.Progress.sign.Goals as goal

pub returns : goal.returns
returns c =
    let b = memory_of c.args.self.now.memory in
    let n : b.peer.core.signed + 1 ≡ suc b.peer.core.signed = omega arith in
    let e : c.keep.new.votes.items ≡ keep (record { by = c.args.me; slot = b.peer.core.signed; x = c.args.x }) b.peer.votes = c.in_ok-keep.ensures ∙ ap (λ (u : SlotVote (List ℕ)). keep u b.peer.votes) c.new-vote.ensures in
    step_does c.args.self.now _ c.args.me (signs b.peer.core.view b.peer.core.signed c.args.x)
    (λ j. record b { peer = record b.peer { core = record b.peer.core { signed = n j }; votes = e j } }) c.in_ok-push.ensures.items
