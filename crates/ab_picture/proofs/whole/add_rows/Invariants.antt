use Rattle.std.specs.List.{range_with_len}
use Rattle.ab_picture.specs.Elements.{IsRow}
use Rattle.ab_picture.specs.Lists.{AddsAll}
use Rattle.ab_picture.proofs.whole.add_rows.Given as goal

abbrev pub invariant-loop-i : goal.invariant-loop-i
invariant-loop-i l = AddsAll (IsRow l.picture) (range_with_len 1 l.i) l.fn.out.items l.out.items
