use Rattle.std.proofs.Common.{ap, sym, ◌∙◌, Some}
use Rattle.std.specs.FinMap.{get}
use Rattle.std.specs.Option.{option_map}
use Rattle.ab_kv.proofs.StoreLemmas.{get_shown, bytes_of}
use Rattle.ab_kv.proofs.kv.Kv.value_of.Goals as goal

pub returns-in-Some-clause-value : goal.returns-in-Some-clause-value
returns-in-Some-clause-value c =
    ap Some c.as_slice.ensures.value
    ∙ ap (option_map bytes_of) c.in-Some.ensures.value
    ∙ sym (get_shown c.self.inside.values c.array_of.result)
    ∙ (λ j. get (c.self.view_is j) (c.array_of.ensures j))

pub returns-in-None-clause-value : goal.returns-in-None-clause-value
returns-in-None-clause-value c =
    ap (option_map bytes_of) c.in-None.ensures.value
    ∙ sym (get_shown c.self.inside.values c.array_of.result)
    ∙ (λ j. get (c.self.view_is j) (c.array_of.ensures j))
