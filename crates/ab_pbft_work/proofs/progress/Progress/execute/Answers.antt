use Rattle.std.proofs.Common.{◌≡◌, ◌∙◌, ◌++◌, ◌∷◌, [], length, sym, ap}
use Rattle.std.specs.Prelude.{slice_get}
use Rattle.std.proofs.lemmas.List.{append-nil}
use Rattle.std.proofs.lemmas.Option.{same_Some}
use Rattle.ab_msg.specs.declared.value.Value.{Value}
use Rattle.ab_abs.specs.Values.{goes}
use Rattle.ab_lock.specs.Steps.{executes}
use Rattle.ab_pbft_work.proofs.TurnLemmas.{step_does}
use Rattle.ab_pbft_work.specs.Turns.{memory_of}
use Rattle.ab_pbft_work.proofs.progress.Progress.execute.Goals as goal

pub push-requires-clause-next : goal.push-requires-clause-next
push-requires-clause-next c = ap (goes c.args.self.now.memory.executed) c.in_ok-value.ensures ∙ c.requires.next c.at-next.result.now (ap (λ n. slice_get c.args.self.now.memory.accepted n) (sym c.len-n.ensures.len) ∙ c.at-next.ensures.value)

pub returns : goal.returns
returns c = λ v me is.
    let b = memory_of c.args.self.now.memory in
    let same : c.in_ok-value.value ≡ v = c.in_ok-value.ensures ∙ same_Some c.at-next.result.now v (sym c.at-next.ensures.value ∙ (ap (λ n. slice_get b.peer.core.accepted n) c.len-n.ensures.len ∙ is)) in
    let e : c.push.new.self ≡ b.peer.core.executed ++ v ∷ [] = c.in_ok-push.ensures ∙ ap (λ (u : Value). b.peer.core.executed ++ u ∷ []) same in
    step_does c.args.self.now _ me (executes b.peer.core.view (length b.peer.core.executed) v)
    (λ j. record b { peer = record b.peer { core = record b.peer.core { executed = e j } } }) (sym (append-nil c.args.self.now.deeds.items))
