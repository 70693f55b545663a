use Rattle.std.proofs.Common.{take}
use Rattle.ab_picture.specs.Elements.{IsStub}
use Rattle.ab_picture.specs.Lists.{AddsAll}
use Rattle.ab_picture.proofs.whole.add_stubs.Given as goal

abbrev pub invariant-loop-stub : goal.invariant-loop-stub
invariant-loop-stub l = AddsAll (IsStub l.picture) (take l.stub-index l.stubs) l.fn.out.items l.out.items
