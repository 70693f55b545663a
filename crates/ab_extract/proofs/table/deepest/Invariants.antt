use Rattle.ab_extract.specs.Tables.{lists_of}
use Rattle.ab_extract.proofs.WalkLemmas.{IsBest}
use Rattle.ab_extract.proofs.table.deepest.Given as goal

abbrev pub invariant-loop-i : goal.invariant-loop-i
invariant-loop-i l = IsBest l.q (lists_of l.branches) l.i l.best l.most
