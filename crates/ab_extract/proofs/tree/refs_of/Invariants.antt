use Rattle.std.proofs.Common.{◌≡◌, take, map}
use Rattle.ab_extract.specs.Tables.{lists_of}
use Rattle.ab_extract.proofs.tree.refs_of.Given as goal

abbrev pub invariant-loop-branch : goal.invariant-loop-branch
invariant-loop-branch l = map (λ x. x.now) l.made.items ≡ lists_of (take l.branch-index l.branches)
