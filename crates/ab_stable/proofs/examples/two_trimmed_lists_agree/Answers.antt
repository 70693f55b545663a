use Rattle.ab_stable.proofs.SmallPoints.{found_late, found_early, found_none}
use Rattle.ab_stable.proofs.examples.two_trimmed_lists_agree.Goals as goal

pub returns : goal.returns
returns c = record { on_late = found_late; on_early = found_early; on_none = found_none }
