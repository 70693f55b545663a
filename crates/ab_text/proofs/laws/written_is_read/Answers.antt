use Rattle.ab_text.specs.Texts.{schedule_text}
use Rattle.ab_text.proofs.laws.written_is_read.Goals as goal

pub returns : goal.returns
returns c s good built = c.spelled_is_read.ensures.built (schedule_text s) s (c.written_is_spelled.ensures s good) built
