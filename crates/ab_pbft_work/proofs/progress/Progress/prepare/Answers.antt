use Rattle.std.proofs.Common.{◌≡◌, ◌∙◌, ◌+◌, ◌++◌, ◌∷◌, [], ℕ, List, Some, suc, take, length, sym, ap, arith}
use Rattle.std.specs.Prelude.{slice_get}
use Rattle.std.proofs.lemmas.List.{length-take-le}
use Rattle.ab_hist.proofs.KeptLemmas.{slice_get-take}
use Rattle.ab_msg.specs.declared.value.Value.{Value}
use Rattle.ab_msg.specs.Slots.{slot_digest}
use Rattle.ab_lock.specs.Steps.{Cert, prepares, set_cert}
use Rattle.ab_lock.specs.Votes.{SlotVote, keep}
use Rattle.ab_slots.specs.declared.notice.Notice.TheVariants.{Prepares}
use Rattle.ab_pbft_work.proofs.TurnLemmas.{step_does, prepared_certs, prepared_commits, prepared_told}
use Rattle.ab_pbft_work.specs.Turns.{memory_of}
use Rattle.ab_pbft_work.proofs.progress.Progress.prepare.Goals as goal

pub returns : goal.returns
returns c =
    let b = memory_of c.args.self.now.memory in
    let n = b.peer.core.prepared in
    let value = c.at-value.result.now in
    let h = take (suc n) b.peer.core.accepted in
    let long : length h ≡ suc n = length-take-le (suc n) b.peer.core.accepted (omega (arith, c.requires)) in
    let there : slice_get h n ≡ Some value = slice_get-take (suc n) b.peer.core.accepted n (omega arith) ∙ c.at-value.ensures.value in
    let one : n + 1 ≡ length h = omega (arith, long) in
    let cert : c.new-cert.result ≡ record { at = b.peer.core.view; value = value } = c.new-cert.ensures ∙ (λ j. record { at = b.peer.core.view; value = c.in_ok-backed.ensures j }) in
    let certs = c.in_ok-set_cert.ensures ∙ (ap (λ (k : Cert Value). set_cert n k b.peer.core.certs) cert ∙ sym (prepared_certs h n value long there b.peer.core.view b.peer.core.certs)) in
    let vote : c.new-vote.result ≡ record { by = c.args.me; slot = n; x = slot_digest value } = c.new-vote.ensures ∙ (λ j. record { by = c.args.me; slot = n; x = c.slot_digest-x.ensures j }) in
    let commits = c.in_ok-keep.ensures ∙ (ap (λ (u : SlotVote (List ℕ)). keep u b.peer.commits) vote ∙ sym (prepared_commits h n value long there c.args.me b.peer.commits)) in
    step_does c.args.self.now _ c.args.me (prepares b.peer.core.view h)
    (λ j. record b { peer = record b.peer { core = record b.peer.core { prepared = one j; certs = certs j }; commits = commits j } })
    (c.in_ok-push.ensures.items ∙ (ap (λ (v : Value). c.args.self.now.deeds.items ++ Prepares b.peer.core.view n v ∷ []) c.in_ok-told.ensures ∙ ap (λ l. c.args.self.now.deeds.items ++ l) (sym (prepared_told h n value long there b.peer.core.view))))
