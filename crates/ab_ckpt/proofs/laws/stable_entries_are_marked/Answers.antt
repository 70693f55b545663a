use Rattle.ab_ckpt.proofs.StableLemmas.{stable_are}
use Rattle.ab_ckpt.proofs.laws.stable_entries_are_marked.Goals as goal

pub returns : goal.returns
returns c = stable_are
