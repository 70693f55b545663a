use Rattle.std.proofs.Common.{◌≡◌, ◌∙◌, sym, arith, drop}
use Rattle.std.specs.Prelude.{slice_get}
use Rattle.std.specs.Option.{option_map}
use Rattle.ab_lock.specs.Choosing.{better, best_in}
use Rattle.ab_slots.specs.Offers.{offer_of}
use Rattle.ab_slots.proofs.ChosenLemmas.{best_step}
use Rattle.ab_slots.proofs.choosing.best.Goals as goal

pub changes-preserved : goal.changes-preserved
changes-preserved c =
    let item = c.index-changes-i in
    let is : option_map offer_of c.better-best.result ≡ better item.result.by (slice_get item.result.certs c.args.t) (best_in (drop c.changes.i c.args.changes.now) c.args.t) =
    c.better-best.ensures ∙ (λ j. better (c.by.ensures j) (c.cert_in.ensures j) (c.changes.invariant.0 j)) in
    (is ∙ sym (best_step c.args.changes.now c.changes.i item.result c.args.t c.changes-test.true c.changes.invariant.1 item.is), omega arith)
