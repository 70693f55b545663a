use Rattle.std.proofs.Common.{take}
use Rattle.ab_picture.specs.Elements.{IsColour}
use Rattle.ab_picture.specs.Lists.{AddsAll}
use Rattle.ab_picture.proofs.whole.add_colours.Given as goal

abbrev pub invariant-loop-mark : goal.invariant-loop-mark
invariant-loop-mark l = AddsAll (IsColour l.picture) (take l.mark-index l.marks) l.fn.out.items l.out.items
