use Rattle.std.proofs.Common.{drop}
use Rattle.ab_hist.specs.Histories.{Knows}
use Rattle.ab_hist.specs.Chunks.{entries_of}
use Rattle.ab_trim.proofs.chain.Chain.is_later.Given as goal

abbrev pub invariant-chunks : goal.invariant-chunks
invariant-chunks l = Knows (entries_of (drop l.n l.self-inside.parts.items)) l.m.client → ⊥
