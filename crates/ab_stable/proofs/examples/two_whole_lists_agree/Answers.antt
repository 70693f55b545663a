use Rattle.ab_stable.proofs.SmallPoints.{found_first, found_both}
use Rattle.ab_stable.proofs.examples.two_whole_lists_agree.Goals as goal

pub returns : goal.returns
returns c = record { on_first = found_first; on_both = found_both }
