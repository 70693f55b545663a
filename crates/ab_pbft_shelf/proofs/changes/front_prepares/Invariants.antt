use Rattle.std.proofs.Common.{◌≡◌, ◌++◌, map, drop}
use Rattle.ab_pbft_shelf.specs.Shelves.{certified_front}
use Rattle.ab_pbft_shelf.proofs.changes.front_prepares.Given as goal

abbrev pub invariant-loop-slot : goal.invariant-loop-slot
invariant-loop-slot l = l.prepares.items ++ map (λ c. c.prepares) (certified_front (drop l.slot-index l.slots)) ≡ map (λ c. c.prepares) (certified_front l.slots)
