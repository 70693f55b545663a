use Rattle.std.proofs.Common.{◌≡◌, ◌++◌, map, drop}
use Rattle.ab_pbft_shelf.specs.Shelves.{certified_front}
use Rattle.ab_pbft_shelf.proofs.changes.front_values.Given as goal

abbrev pub invariant-loop-slot : goal.invariant-loop-slot
invariant-loop-slot l = l.values.items ++ map (λ c. c.value) (certified_front (drop l.slot-index l.slots)) ≡ map (λ c. c.value) (certified_front l.slots)
