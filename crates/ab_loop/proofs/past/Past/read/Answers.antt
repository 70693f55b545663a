use Rattle.std.proofs.Common.{All, subst}
use Rattle.ab_loop.specs.Past.{IsSpelled}
use Rattle.ab_loop.proofs.PastLemmas.{all_spell}
use Rattle.ab_loop.proofs.past.Past.read.Goals as goal

pub returns-in-None-clause-ok : goal.returns-in-None-clause-ok
returns-in-None-clause-ok c = all_spell c.args.bodies.items (subst (All IsSpelled) c.deref.ensures.value c.in-None.ensures.first)
