use Rattle.std.proofs.Common.{ℕ, Vec, ap, ◌∙◌}
use Rattle.std.specs.declared.alloc.Global.{Global}
use Rattle.ab_restart.proofs.PastLemmas.{differ, not_first}
use Rattle.ab_restart.proofs.resuming.past_of.Goals as goal

pub returns-then-ne-clause-foreign : goal.returns-then-ne-clause-foreign
returns-then-ne-clause-foreign c =
    not_first c.args.first.now c.args.bodies.items c.index.result.now c.requires
    (λ is. differ c.as_slice.result.now c.args.first.now c.if-ne.ensures (c.as_slice.ensures.value ∙ ap (λ (body : Vec ℕ Global). body.items) c.index.ensures ∙ is))
