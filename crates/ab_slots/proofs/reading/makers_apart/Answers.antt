use Rattle.std.proofs.Common.{◌≡◌, ◌∙◌, ◌+◌, true, false, List, sym, ap, drop}
use Rattle.std.specs.Prelude.{nat_eq}
use Rattle.std.specs.List.{list_any}
use Rattle.ab_order.specs.Inputs.{ChangeReading}
use Rattle.ab_slots.proofs.ApartLemmas.{makers_end, makers_more}
use Rattle.ab_slots.proofs.reading.makers_apart.Goals as goal

pub returns-then-has_maker : goal.returns-then-has_maker
returns-then-has_maker c =
    let item = c.index-changes-i in
    let twice : list_any (λ (d : ChangeReading). nat_eq c.by.result d.by) (drop (c.changes.i + 1) c.args.changes.now) ≡ true =
    ap (λ (l : List ChangeReading). list_any (λ (d : ChangeReading). nat_eq c.by.result d.by) l) (sym c.split_at.ensures.back) ∙ (sym c.has_maker.ensures ∙ c.if-has_maker.true) in
    sym (c.changes.invariant ∙ makers_end c.args.changes.now c.changes.i c.by.result item.result c.changes-test.true item.is c.by.ensures twice)

pub changes-preserved : goal.changes-preserved
changes-preserved c =
    let item = c.index-changes-i in
    let once : list_any (λ (d : ChangeReading). nat_eq c.by.result d.by) (drop (c.changes.i + 1) c.args.changes.now) ≡ false =
    ap (λ (l : List ChangeReading). list_any (λ (d : ChangeReading). nat_eq c.by.result d.by) l) (sym c.split_at.ensures.back) ∙ (sym c.has_maker.ensures ∙ c.if-has_maker.false) in
    c.changes.invariant ∙ makers_more c.args.changes.now c.changes.i c.by.result item.result c.changes-test.true item.is c.by.ensures once
