use Rattle.std.proofs.Common.{refl}
use Rattle.ab_content.proofs.TrimmedLemmas.{whole_list, today}
use Rattle.ab_content.proofs.laws.whole_lists_are_histories.Goals as goal

pub returns : goal.returns
returns c = record { spelled = λ h. refl; whole = whole_list; read = today }
