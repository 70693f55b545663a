use Rattle.std.proofs.Common.{◌≡◌, ◌+◌, ◌∷◌, ◌++◌, [], arith, length, length-append, sym, ap, ◌∙◌, drop}
use Rattle.std.proofs.lemmas.List.{at_drop_more}
use Rattle.ab_picture.specs.Pictures.{moment_of, moments_of}
use Rattle.ab_picture.proofs.Gathering.{gathered_value}
use Rattle.ab_picture.proofs.composing.moments.Goals as goal

pub loop-i-preserved : goal.loop-i-preserved
loop-i-preserved c =
    let events = c.args.told.now.events.now in
    let counts = c.args.told.now.counts.now in
    let parcels = c.args.told.now.parcels.now in
    let i = c.loop-i.i in
    let e = c.index-events-i.result in
    let old = c.loop-i.moments.items in
    let next : drop i events ≡ e ∷ drop (i + 1) events = at_drop_more (λ t. t) events i e c.loop-i-test.true ∙ ap (λ x. x ∷ drop (i + 1) events) (sym c.index-events-i.is) in
    record {
      gathered = gathered_value (λ x. moment_of counts parcels x.0 x.1) (drop i events) (drop (i + 1) events) i e (moments_of events counts parcels)
          old c.push.new.self.items next c.loop-i.invariant.gathered (c.in_ok-push.ensures.items ∙ ap (λ m. old ++ m ∷ []) c.moment_of.ensures);
      count = ap length c.in_ok-push.ensures.items ∙ length-append old (c.moment_of.result ∷ []) ∙ omega (arith, c.loop-i.invariant.count);
    }
