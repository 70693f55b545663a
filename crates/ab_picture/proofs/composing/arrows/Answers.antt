use Rattle.std.proofs.Common.{◌≡◌, ◌+◌, ◌∷◌, ◌++◌, [], sym, ap, ◌∙◌, drop}
use Rattle.std.specs.List.{cons_option}
use Rattle.std.proofs.lemmas.List.{at_drop_more}
use Rattle.ab_picture.specs.Pictures.{arrow_of, arrows_of}
use Rattle.ab_picture.proofs.Gathering.{gathered_option}
use Rattle.ab_picture.proofs.composing.arrows.Goals as goal

pub loop-i-preserved : goal.loop-i-preserved
loop-i-preserved c =
    let events = c.args.told.now.events.now in
    let counts = c.args.told.now.counts.now in
    let parcels = c.args.told.now.parcels.now in
    let i = c.loop-i.i in
    let x = c.index-events-i.result in
    let old = c.loop-i.arrows.items in
    let next : drop i events ≡ x ∷ drop (i + 1) events = at_drop_more (λ t. t) events i x c.loop-i-test.true ∙ ap (λ y. y ∷ drop (i + 1) events) (sym c.index-events-i.is) in
    gathered_option (λ y. arrow_of counts parcels y.0 y.1) (drop i events) (drop (i + 1) events) (i + 1) x (arrows_of events counts parcels)
    old c.keep.new.all.items next c.loop-i.invariant (c.in_ok-keep.ensures ∙ ap (λ o. old ++ cons_option o []) c.arrow_of-arrow.ensures)
