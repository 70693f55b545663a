use Rattle.std.proofs.Common.{ap, sym, ◌∙◌, is_some}
use Rattle.std.specs.FinMap.{contains_key, remove}
use Rattle.ab_kv.proofs.StoreLemmas.{contains_shown, store-remove}
use Rattle.ab_kv.proofs.kv.Kv.remove.Goals as goal

pub returns-clause-there : goal.returns-clause-there
returns-clause-there c =
    c.is_some.ensures ∙ ap is_some c.remove.ensures.value
    ∙ sym (contains_shown c.self.inside.values c.array_of.result)
    ∙ (λ j. contains_key (c.self.view_is j) (c.array_of.ensures j))

pub returns-clause-gone : goal.returns-clause-gone
returns-clause-gone c =
    store-remove c.self.inside.values c.remove.new.self c.array_of.result c.remove.ensures.updates
    ∙ (λ j. remove (c.self.view_is j) (c.array_of.ensures j))
