use Rattle.ab_text.specs.Lines.{lines_of}
use Rattle.ab_text.proofs.UniqueLemmas.{lines_once}
use Rattle.ab_text.proofs.reading.one_reading.Goals as goal

pub returns : goal.returns
returns c text r q a b = lines_once (lines_of text) r q a b
