use Rattle.ab_ckpt.proofs.MarkLemmas.{exact}
use Rattle.ab_ckpt.proofs.laws.stable_entries_are_found.Goals as goal

pub returns : goal.returns
returns c = λ replicas trimmed n log marks all some. exact replicas trimmed log marks all some n
