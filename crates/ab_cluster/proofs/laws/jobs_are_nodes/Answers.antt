use Rattle.ab_cluster.proofs.JobLemmas.{inputs_set_up, words_ask}
use Rattle.ab_cluster.proofs.laws.jobs_are_nodes.Goals as goal

pub returns-clause-words : goal.returns-clause-words
returns-clause-words c = words_ask

pub returns-clause-input : goal.returns-clause-input
returns-clause-input c = inputs_set_up
