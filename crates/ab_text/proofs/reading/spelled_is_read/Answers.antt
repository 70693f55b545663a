use Rattle.ab_text.proofs.SpellingLemmas.{spelled_read, spelled_refused}
use Rattle.ab_text.proofs.reading.spelled_is_read.Goals as goal

pub returns-clause-built : goal.returns-clause-built
returns-clause-built c text s spelled built = spelled_read text s spelled built

pub returns-clause-not_built : goal.returns-clause-not_built
returns-clause-not_built c text s spelled some = spelled_refused text s spelled some
