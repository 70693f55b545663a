use Rattle.std.proofs.Common.{◌≡◌, take}
use Rattle.ab_pbft_shelf.proofs.kept.copy_slots.Given as goal

abbrev pub invariant-slots : goal.invariant-slots
invariant-slots l = l.copies.items ≡ take l.certified-index l.slots
