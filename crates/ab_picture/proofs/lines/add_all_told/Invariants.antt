use Rattle.std.proofs.Common.{take}
use Rattle.ab_picture.specs.Lists.{AddsAll}
use Rattle.ab_picture.specs.Telling.{IsLabel}
use Rattle.ab_picture.proofs.lines.add_all_told.Given as goal

abbrev pub invariant-loop-mark : goal.invariant-loop-mark
invariant-loop-mark l = AddsAll IsLabel (take l.mark-index l.marks) l.initial.out.items l.out.items
