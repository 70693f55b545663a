use Rattle.std.proofs.Common.{ap, sym, ◌∙◌}
use Rattle.std.specs.FinMap.{len}
use Rattle.ab_kv.proofs.StoreLemmas.{len_shown}
use Rattle.ab_kv.proofs.kv.Kv.len.Goals as goal

pub returns-clause-len : goal.returns-clause-len
returns-clause-len c = c.len.ensures.len ∙ sym (len_shown c.self.inside.values c.self.invariant.ordered) ∙ ap len c.self.view_is
