use Rattle.std.proofs.Common.{◌≡◌, ◌≤◌, drop, length}
use Rattle.std.specs.Option.{option_map}
use Rattle.ab_lock.specs.Choosing.{best_in}
use Rattle.ab_slots.specs.Offers.{offer_of}
use Rattle.ab_slots.proofs.choosing.best.Given as goal

abbrev pub invariant-changes : goal.invariant-changes
invariant-changes l = (option_map offer_of l.best ≡ best_in (drop l.i l.changes) l.t) × (l.i ≤ length l.changes)

abbrev pub decreases-changes : goal.decreases-changes
decreases-changes l = l.i
