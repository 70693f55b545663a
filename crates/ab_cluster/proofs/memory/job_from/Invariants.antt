use Rattle.std.proofs.Common.{◌≡◌, map, string_bytes, take}
use Rattle.ab_cluster.proofs.memory.job_from.Given as goal

abbrev pub invariant-loop-word : goal.invariant-loop-word
invariant-loop-word l = map string_bytes l.own.items ≡ map (λ word. word.now) (take l.word-index l.fn.words)
