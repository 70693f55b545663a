use Rattle.std.proofs.Common.{◌≡◌, ◌==◌, take}
use Rattle.std.specs.List.{filter}
use Rattle.ab_pbft_shelf.specs.Shelves.{view_of}
use Rattle.ab_pbft_shelf.proofs.changes.proofs_for.Given as goal

abbrev pub invariant-loop-p : goal.invariant-loop-p
invariant-loop-p l = l.made.items ≡ take l.most (filter (λ p. view_of p == l.view) (take l.p-index l.proofs))
