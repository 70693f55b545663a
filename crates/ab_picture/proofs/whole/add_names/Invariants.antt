use Rattle.std.proofs.Common.{take}
use Rattle.ab_picture.specs.Elements.{IsName}
use Rattle.ab_picture.specs.Lists.{AddsAll}
use Rattle.ab_picture.proofs.whole.add_names.Given as goal

abbrev pub invariant-loop-arrow : goal.invariant-loop-arrow
invariant-loop-arrow l = AddsAll (IsName l.picture) (take l.arrow-index l.arrows) l.fn.out.items l.out.items
