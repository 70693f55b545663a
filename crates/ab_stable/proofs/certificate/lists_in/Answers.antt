use Rattle.std.proofs.Common.{◌≡◌, ◌++◌, ◌∷◌, [], ap, ◌∙◌}
use Rattle.std.proofs.lemmas.List.{map_push}
use Rattle.ab_wire.specs.Views.{aborts, signed}
use Rattle.ab_trim.specs.Points.{lists_in}
use Rattle.ab_stable.specs.Offers.{all_stated}
use Rattle.ab_stable.specs.Reading.{seen}
use Rattle.ab_stable.proofs.ReadingLemmas.{gone_over, at_next, one_more}
use Rattle.ab_stable.proofs.certificate.lists_in.Goals as goal

pub aborts-preserved : goal.aborts-preserved
aborts-preserved c =
    let q = c.args.c.now in
    let j = c.args.j in
    let lists = lists_in c.aborts.lists.items in
    let v = seen c.in-Some-stated_in.stated in
    let more = aborts c.next.new.self in
    let added : lists_in c.push.new.self.items ≡ lists ++ v.list ∷ [] =
    ap lists_in c.in_ok-push.ensures.items ∙ map_push (λ l. l.list) c.aborts.lists.items c.in_ok-list.list ∙ ap (λ l. lists ++ l.list ∷ []) c.in_ok-list.ensures
    in (
      tt,
      tt,
      ap (λ xs. gone_over (λ w. w.list) xs (all_stated q j more)) added
          ∙ one_more (λ w. w.list) lists v (all_stated q j more)
          ∙ at_next (λ w. w.list) q j lists _ (aborts c.aborts.abort-iterator) (signed c.in-Some.abort) more _ c.in-Some.ensures.steps.0 c.in-Some-stated_in.ensures.seen c.aborts.invariant.2,
    )
