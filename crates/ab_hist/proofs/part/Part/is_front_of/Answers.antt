use Rattle.std.proofs.Common.{◌≡◌, length, take, List, refl, subst, IsTrue}
use Rattle.ab_hist.specs.declared.request.Request.{Request}
use Rattle.ab_hist.proofs.RequestLemmas.{prefix_says}
use Rattle.ab_hist.proofs.part.Part.is_front_of.Goals as goal

pub returns-then-mine-others : goal.returns-then-mine-others
returns-then-mine-others c =
    let mine = c.requests-mine.result.now in
    let others = c.requests-others.result.now in
    let says : (IsTrue c.eq.result → take (length mine) others ≡ mine) × (take (length mine) others ≡ mine → IsTrue c.eq.result) =
    prefix_says mine others (take (length mine) others) c.eq.result c.eq.ensures refl in
    subst (λ (xs : List Request). (IsTrue c.eq.result → take (length xs) c.args.p.now.requests ≡ xs) × (take (length xs) c.args.p.now.requests ≡ xs → IsTrue c.eq.result)) c.requests-mine.ensures
    (subst (λ (ys : List Request). (IsTrue c.eq.result → take (length mine) ys ≡ mine) × (take (length mine) ys ≡ mine → IsTrue c.eq.result)) c.requests-others.ensures says)
