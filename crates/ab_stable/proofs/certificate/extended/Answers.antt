use Rattle.std.proofs.Common.{◌+◌, ◌-◌, ◌≤◌, ◌∷◌, [], length, drop, sym, ap, ◌∙◌, arith, length-append}
use Rattle.ab_stable.specs.Reading.{extended}
use Rattle.ab_stable.proofs.BasedLemmas.{next_entry, goes_on, stops}
use Rattle.ab_stable.proofs.certificate.extended.Goals as goal

pub returns-then-not-branch-clause-value : goal.returns-then-not-branch-clause-value
returns-then-not-branch-clause-value c =
    let rest = c.args.t.now.list.rest in
    let start = c.args.t.now.list.start in
    let from : start ≤ c.entries.place = omega (arith, c.requires.list.0, c.entries.auto.place) in
    let next = next_entry rest start c.entries.place c.at.result.now from c.at.ensures in
    sym (sym c.entries.invariant.1 ∙ ap (extended c.entries.base) next ∙ stops c.entries.base c.at.result.now _ (sym c.in_ok-add.ensures.test ∙ c.if-not-branch.true))

pub entries-preserved : goal.entries-preserved
entries-preserved c =
    let rest = c.args.t.now.list.rest in
    let start = c.args.t.now.list.start in
    let from : start ≤ c.entries.place = omega (arith, c.requires.list.0, c.entries.auto.place) in
    let next = next_entry rest start c.entries.place c.at.result.now from c.at.ensures in
    let added = c.in_ok-add.ensures.added c.if-not-branch.false in (
      ap length added ∙ (length-append c.entries.base (c.at.result.now ∷ []) ∙ ap (λ n. n + 1) c.entries.invariant.0),
      ap (λ h. extended h (drop (c.entries.place + 1 - start) rest)) added
          ∙ sym (goes_on c.entries.base c.at.result.now _ (sym c.in_ok-add.ensures.test ∙ c.if-not-branch.false))
          ∙ ap (extended c.entries.base) (sym next)
          ∙ c.entries.invariant.1,
    )
