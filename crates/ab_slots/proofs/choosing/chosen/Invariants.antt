use Rattle.std.proofs.Common.{◌≡◌, ◌≤◌, ◌-◌, suc, length}
use Rattle.ab_abs.specs.Values.{goes}
use Rattle.ab_lock.specs.Choosing.{chosen_of, chosen_from}
use Rattle.ab_slots.proofs.choosing.chosen.Given as goal

abbrev pub invariant-slots : goal.invariant-slots
invariant-slots l = record { so_far : chosen_of goes l.k l.changes ≡ chosen_from goes l.changes (suc l.k - l._n) l.chosen; short : length l.chosen ≤ l._n }
