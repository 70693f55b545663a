use Rattle.std.proofs.Common.{◌≡◌, map, string_bytes, take}
use Rattle.ab_cluster.proofs.gathering.texts.Given as goal

abbrev pub invariant-loop-word : goal.invariant-loop-word
invariant-loop-word l = map (λ text. text.now) l.all.items ≡ map string_bytes (take l.word-index l.fn.words)
