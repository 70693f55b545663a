use Rattle.std.proofs.Common.{take}
use Rattle.ab_picture.specs.Elements.{IsArrow}
use Rattle.ab_picture.specs.Lists.{AddsAll}
use Rattle.ab_picture.proofs.whole.add_arrows.Given as goal

abbrev pub invariant-loop-arrow : goal.invariant-loop-arrow
invariant-loop-arrow l = AddsAll (IsArrow l.picture) (take l.arrow-index l.arrows) l.fn.out.items l.out.items
