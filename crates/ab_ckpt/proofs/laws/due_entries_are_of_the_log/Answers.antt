use Rattle.std.proofs.Common.{refl}
use Rattle.ab_ckpt.proofs.StableLemmas.{due_is}
use Rattle.ab_ckpt.proofs.laws.due_entries_are_of_the_log.Goals as goal

pub returns : goal.returns
returns c = record { log = due_is; never = λ sent trimmed len stopped. refl }
