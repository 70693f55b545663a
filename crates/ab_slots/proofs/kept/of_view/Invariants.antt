use Rattle.std.proofs.Common.{◌≡◌, take}
use Rattle.ab_lock.specs.ViewChanges.{of_view}
use Rattle.ab_slots.proofs.kept.of_view.Given as goal

abbrev pub invariant-kept : goal.invariant-kept
invariant-kept l = l.changes.items ≡ of_view (take l.u-index l.kept) l.view
