use Rattle.std.proofs.Common.{◌≡◌, None, replicate}
use Rattle.ab_pbft_shelf.proofs.shelf.empty_slots.Given as goal

abbrev pub invariant-loop-slot : goal.invariant-loop-slot
invariant-loop-slot l = l.slots.items ≡ replicate l._slot None
