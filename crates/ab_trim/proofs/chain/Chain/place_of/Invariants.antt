use Rattle.std.proofs.Common.{drop, Contains}
use Rattle.ab_hist.specs.Chunks.{entries_of}
use Rattle.ab_trim.proofs.chain.Chain.place_of.Given as goal

abbrev pub invariant-chunks : goal.invariant-chunks
invariant-chunks l = Contains (entries_of (drop l.n l.self-inside.parts.items)) l.m → ⊥
