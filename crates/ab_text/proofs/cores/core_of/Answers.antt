use Rattle.std.proofs.Common.{◌≡◌, None, Some}
use Rattle.ab_text.proofs.CoreLemmas.{without_dot, with_dot}
use Rattle.ab_text.proofs.cores.core_of.Goals as goal

not_none : {A : Type 0} → (x : A) → Some x ≡ None → ⊥
not_none x e = cc

pub returns-in-None-clause-only : goal.returns-in-None-clause-only
returns-in-None-clause-only c core good is =
    without_dot c.args.text.now c.sole_core.result core.party core.twin c.in-None.ensures.only c.sole_core.ensures.only good.party is

pub returns-in-Some-clause-only : goal.returns-in-Some-clause-only
returns-in-Some-clause-only c core good is =
    with_dot c.args.text.now c.in-Some.party.now c.in-Some.twin.now c.twin_core.result core.party core.twin
    c.in-Some.ensures.only (λ lacks. not_none _ (c.in-Some.ensures.none lacks)) c.twin_core.ensures.only good.party good.twin is
