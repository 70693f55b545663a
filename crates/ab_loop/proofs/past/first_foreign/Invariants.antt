use Rattle.std.proofs.Common.{ℕ, ◌<◌, slice_index_or}
use Rattle.std.specs.Prelude.{Vec}
use Rattle.std.specs.declared.alloc.Global.{Global}
use Rattle.ab_loop.specs.Past.{IsSpelled}
use Rattle.ab_loop.proofs.past.first_foreign.Given as goal

abbrev pub invariant-bodies : goal.invariant-bodies
invariant-bodies l = (k : ℕ) (d : Vec ℕ Global) → k < l.index → IsSpelled (slice_index_or l.bodies k d)
