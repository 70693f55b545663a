use Rattle.ab_text.proofs.SpellingLemmas.{read_built, read_spelled}
use Rattle.ab_text.proofs.reading.read_is_spelled.Goals as goal

pub returns-clause-spelled : goal.returns-clause-spelled
returns-clause-spelled c text s reads = read_spelled text s reads

pub returns-clause-built : goal.returns-clause-built
returns-clause-built c text s reads = read_built text s reads
