use Rattle.ab_stable.proofs.NamedLists.{named, nothing_forgotten}
use Rattle.ab_stable.proofs.wholes.named_lists_are_whole.Goals as goal

pub returns : goal.returns
returns c = record { named = named; nothing = nothing_forgotten }
