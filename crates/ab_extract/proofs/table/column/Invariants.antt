use Rattle.std.proofs.Common.{◌≡◌, ◌-◌, take, drop, map}
use Rattle.ab_extract.specs.Tables.{list_at}
use Rattle.ab_extract.specs.Walks.{common_of}
use Rattle.ab_extract.proofs.table.column.Given as goal

abbrev pub invariant-loop-j : goal.invariant-loop-j
invariant-loop-j l = l.made.items ≡ map (λ x. common_of (list_at l.branches l.i) x.list) (take (l.j - l.i) (drop l.i l.branches))
