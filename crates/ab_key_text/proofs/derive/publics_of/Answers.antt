use Rattle.std.proofs.Common.{◌∷◌, ◌++◌, [], sym, ◌∙◌, arith}
use Rattle.std.proofs.lemmas.List.FromFn.{map-range_with_len_more}
use Rattle.ab_key_text.specs.Derived.{public_of}
use Rattle.ab_key_text.proofs.derive.publics_of.Goals as goal

pub loop-r-preserved : goal.loop-r-preserved
loop-r-preserved c =
    c.in_ok-push.ensures.items ∙ (λ j. c.loop-r.invariant j ++ c.public_of.ensures j ∷ [])
    ∙ sym (map-range_with_len_more (public_of c.args.lms c.args.seed.now) 0 c.loop-r.r c.loop-r.r (omega arith))
