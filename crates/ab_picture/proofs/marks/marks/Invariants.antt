use Rattle.std.proofs.Common.{◌≡◌, map, take}
use Rattle.ab_picture.specs.Pictures.{mark_of}
use Rattle.ab_picture.proofs.marks.marks.Given as goal

abbrev pub invariant-loop-line : goal.invariant-loop-line
invariant-loop-line l = l.all.items ≡ map mark_of (take l.line-index l.lines)
