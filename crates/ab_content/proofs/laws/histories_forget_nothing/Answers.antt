use Rattle.ab_content.proofs.TrimmedLemmas.{history_refuses, refused}
use Rattle.ab_content.proofs.laws.histories_forget_nothing.Goals as goal

pub returns : goal.returns
returns c = record { today = history_refuses; refused = refused }
