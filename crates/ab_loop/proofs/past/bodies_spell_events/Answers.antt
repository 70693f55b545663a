use Rattle.ab_loop.proofs.PastLemmas.{alone, spelled}
use Rattle.ab_loop.proofs.past.bodies_spell_events.Goals as goal

pub returns-clause-spelled : goal.returns-clause-spelled
returns-clause-spelled c = spelled

pub returns-clause-alone : goal.returns-clause-alone
returns-clause-alone c = alone
