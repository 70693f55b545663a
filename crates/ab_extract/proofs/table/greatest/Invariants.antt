use Rattle.std.proofs.Common.{◌≡◌, take, fold, max}
use Rattle.ab_extract.proofs.table.greatest.Given as goal

abbrev pub invariant-loop-n : goal.invariant-loop-n
invariant-loop-n l = l.most ≡ fold max 0 (take l.n-index l.numbers)
