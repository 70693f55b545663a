use Rattle.std.proofs.Common.{◌≡◌, take, map}
use Rattle.ab_extract.specs.Walks.{common_of}
use Rattle.ab_extract.proofs.table.shared_with.Given as goal

abbrev pub invariant-loop-b : goal.invariant-loop-b
invariant-loop-b l = l.made.items ≡ map (λ x. common_of l.h x.list) (take l.b-index l.branches)
