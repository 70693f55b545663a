use Rattle.std.proofs.Common.{sym}
use Rattle.ab_words.specs.Uses.{texts}
use Rattle.ab_words.proofs.Refusals.{cluster-refused}
use Rattle.ab_words.proofs.reading.cluster_words.Goals as goal

pub returns-in-None : goal.returns-in-None
returns-in-None c = sym (cluster-refused (texts c.args.words.now) (rw c.in-None.is at c.in_ok-uses_in.ensures))
