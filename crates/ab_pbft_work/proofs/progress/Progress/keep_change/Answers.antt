use Rattle.std.proofs.Common.{◌≡◌, ◌∙◌, refl, ap}
use Rattle.ab_lock.specs.ViewChanges.{Kept, put}
use Rattle.ab_msg.specs.declared.value.Value.{Value}
use Rattle.ab_pbft_rules.specs.Rules.{change_of}
use Rattle.ab_pbft_work.proofs.TurnLemmas.{changes_does}
use Rattle.ab_pbft_work.specs.Turns.{memory_of}
use Rattle.ab_pbft_work.proofs.progress.Progress.keep_change.Goals as goal

pub returns : goal.returns
returns c =
    let b = memory_of c.args.self.now.memory in
    let k : c.new-kept.result ≡ record { view = c.args.change.view; change = change_of c.args.change } = c.new-kept.ensures ∙ (λ j. record { view = c.view-view.ensures j; change = c.in_ok-change.ensures j }) in
    let e : c.put.new.kept.items ≡ put (record { view = c.args.change.view; change = change_of c.args.change }) b.changes = c.in_ok-put.ensures ∙ ap (λ (u : Kept Value). put u b.changes) k in
    changes_does c.args.self.now _ c.args.change (λ j. record b { changes = e j }) refl
