use Rattle.std.proofs.Common.{◌≡◌, ◌∙◌, Bool, true, false, ap, arith}
use Rattle.std.specs.Prelude.{if◌then◌else◌}
use Rattle.std.proofs.lemmas.Grind.{common_steps}
use Rattle.ab_abs.specs.Values.{goes}
use Rattle.ab_lock.specs.Choosing.{chosen_from}
use Rattle.ab_slots.proofs.ChosenLemmas.{chosen_begins, chosen_more, chosen_stops}
use Rattle.ab_slots.proofs.choosing.chosen.Goals as goal

pub slots-init : goal.slots-init
slots-init c = record {
  so_far = chosen_begins c.args.changes.now c.args.k c.new-chosen.result c.new-chosen.ensures;
  short = rw c.new-chosen.ensures (omega arith);
}

pub returns-then-not-branch : goal.returns-then-not-branch
returns-then-not-branch c =
    let off : c.in_ok-choose_next.field-0 ≡ false = grind (arith, common_steps) in
    chosen_stops c.args.changes.now c.args.k c.slots._n c.slots.chosen c.choose_next.new.chosen (omega arith)
    (λ m. c.in_ok-choose_next.ensures.next m ∙ ap (λ (b : Bool). if b then chosen_from goes c.args.changes.now m c.choose_next.new.chosen else c.choose_next.new.chosen) off)
    c.slots.invariant.so_far

pub slots-preserved : goal.slots-preserved
slots-preserved c =
    let on : c.in_ok-choose_next.field-0 ≡ true = grind (arith, common_steps) in
    record {
      so_far =
          chosen_more c.args.changes.now c.args.k c.slots._n c.slots.chosen c.choose_next.new.chosen (omega arith)
          (λ m. c.in_ok-choose_next.ensures.next m ∙ ap (λ (b : Bool). if b then chosen_from goes c.args.changes.now m c.choose_next.new.chosen else c.choose_next.new.chosen) on)
          c.slots.invariant.so_far;
      short = omega (arith, c.in_ok-choose_next.ensures.longer, c.slots.invariant.short);
    }
