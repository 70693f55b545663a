use Rattle.std.proofs.Common.{◌≡◌, length, sym, ap, ◌∙◌}
use Rattle.ab_wire.specs.Views.{aborts, signed}
use Rattle.ab_stable.specs.Offers.{all_stated}
use Rattle.ab_stable.specs.Reading.{seen}
use Rattle.ab_stable.proofs.ReadingLemmas.{gone_over, at_next, one_more, too_many}
use Rattle.ab_stable.proofs.certificate.voters.Goals as goal

pub returns-then-len-eq-MOST-clause-none : goal.returns-then-len-eq-MOST-clause-none
returns-then-len-eq-MOST-clause-none c = λ _.
    let q = c.args.c.now in
    let j = c.args.j in
    let by = c.aborts.by.items in
    let v = seen c.in-Some-stated_in.stated in
    let more = aborts c.next.new.self in
    let whole = all_stated q j (aborts c.args.cert.now) in
    let five : length by ≡ 5 = sym c.len.ensures.value ∙ c.if-len-eq-MOST.true in
    too_many (λ w. w.by) q.f by v (all_stated q j more) whole q.in_bounds.few_faulty five
    (at_next (λ w. w.by) q j by _ (aborts c.aborts.abort-iterator) (signed c.in-Some.abort) more _ c.in-Some.ensures.steps.0 c.in-Some-stated_in.ensures.seen c.aborts.invariant.2)

pub aborts-preserved : goal.aborts-preserved
aborts-preserved c =
    let q = c.args.c.now in
    let j = c.args.j in
    let by = c.aborts.by.items in
    let v = seen c.in-Some-stated_in.stated in
    let more = aborts c.next.new.self in (
      tt,
      tt,
      ap (λ xs. gone_over (λ w. w.by) xs (all_stated q j more)) c.push.ensures.items
          ∙ one_more (λ w. w.by) by v (all_stated q j more)
          ∙ at_next (λ w. w.by) q j by _ (aborts c.aborts.abort-iterator) (signed c.in-Some.abort) more _ c.in-Some.ensures.steps.0 c.in-Some-stated_in.ensures.seen c.aborts.invariant.2,
    )
