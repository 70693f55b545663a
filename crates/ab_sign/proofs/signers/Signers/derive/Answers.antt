use Rattle.std.proofs.Common.{◌∷◌, ◌++◌, [], sym, ◌∙◌, arith}
use Rattle.std.proofs.lemmas.List.FromFn.{map-range_with_len_more}
use Rattle.ab_sign.specs.Signers.{derived_key}
use Rattle.ab_sign.proofs.signers.Signers.derive.Goals as goal

pub replicas-preserved : goal.replicas-preserved
replicas-preserved c =
    c.in_ok-push.ensures.items ∙ (λ j. c.replicas.invariant j ++ c.derived_key.ensures j ∷ [])
    ∙ sym (map-range_with_len_more (derived_key c.args.scheme c.args.seed.now) 0 c.replicas.r c.replicas.r (omega arith))
