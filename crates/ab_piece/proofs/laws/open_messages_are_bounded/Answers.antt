use Rattle.ab_piece.proofs.BoundLemmas.{all_short, few_open, kept_all, kept_few}
use Rattle.ab_piece.proofs.laws.open_messages_are_bounded.Goals as goal

pub returns : goal.returns
returns c = record { few = λ ds s. few_open ds s; short = λ ds. all_short ds; kept = λ ds s. kept_few ds s; all = λ ds. kept_all ds }
