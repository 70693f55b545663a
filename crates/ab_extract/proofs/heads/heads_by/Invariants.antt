use Rattle.std.proofs.Common.{◌≡◌, take, map}
use Rattle.ab_extract.specs.Heads.{head_of}
use Rattle.ab_extract.proofs.heads.heads_by.Given as goal

abbrev pub invariant-loop-abort : goal.invariant-loop-abort
invariant-loop-abort l = l.heads.items ≡ map head_of (take l.abort-index l.cert)
