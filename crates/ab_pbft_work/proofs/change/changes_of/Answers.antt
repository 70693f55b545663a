use Rattle.std.proofs.Common.{◌≡◌, ◌++◌, ◌∷◌, [], List, ap, sym, subst, ◌∙◌}
use Rattle.ab_wire.specs.Views.{proof, proofs}
use Rattle.ab_order.specs.Inputs.{ChangeReading}
use Rattle.ab_order.specs.Readings.{changes_of}
use Rattle.ab_pbft_work.proofs.Gathering.{before}
use Rattle.ab_pbft_work.proofs.SlotLemmas.{change_follows}
use Rattle.ab_pbft_work.proofs.change.changes_of.Goals as goal

pub proofs-preserved : goal.proofs-preserved
proofs-preserved c =
    let f = c.args.c.now.f in
    let i = c.args.i in
    let made = c.proofs.changes.items in
    let rest = proofs c.next.new.self in
    let next : before (made ++ c.in-Some-2.change ∷ []) (changes_of f i rest) ≡ changes_of f i (proofs c.args.proofs) =
    change_follows f i made (proof c.in-Some.proof) rest c.in-Some-2.change (sym c.in-Some-2.is ∙ c.in_ok-change.ensures)
    ∙ ap (λ l. before made (changes_of f i l)) (sym c.in-Some.ensures.steps.0) ∙ c.proofs.invariant.2 in (
      tt,
      tt,
      subst (λ (l : List ChangeReading). before l (changes_of f i rest) ≡ changes_of f i (proofs c.args.proofs)) (sym c.in_ok-push-in-Some-2.ensures.items) next,
    )
