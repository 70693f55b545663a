use Rattle.std.proofs.Common.{sym, ◌∙◌, subst}
use Rattle.std.proofs.lemmas.List.{take_all}
use Rattle.ab_trim.specs.Chained.{IsChain}
use Rattle.ab_trim.proofs.chain.Chain.copy.Goals as goal

pub invariant_of-result : goal.invariant_of-result
invariant_of-result c =
    let same = c.loop-part.invariant ∙ take_all c.loop-part.part-index c.deref-part-items.result.now c.loop-part-test.false ∙ c.deref-part-items.ensures.value in
    subst (λ cs. IsChain c.self.inside.start cs c.self.inside.len) (sym same) c.self.invariant
