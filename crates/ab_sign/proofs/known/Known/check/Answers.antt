use Rattle.std.proofs.Common.{Bool, Decides, refl, subst}
use Rattle.ab_scheme.specs.Schemes.{VerifiesBy}
use Rattle.ab_sign.proofs.KeptLemmas.{decides_under}
use Rattle.ab_sign.proofs.known.Known.check.Goals as goal

pub returns-then-not-computed : goal.returns-then-not-computed
returns-then-not-computed c =
    subst (λ (b : Bool). Decides b (VerifiesBy c.args.public.now c.args.content.now c.args.sig.now)) c.if-not-computed.true
    (decides_under c.computed.result c.as_slice.result.now _ _ _ c.as_slice.ensures.bytes c.computed.ensures)

pub learn-requires : goal.learn-requires
learn-requires c = (decides_under c.computed.result c.as_slice.result.now _ _ _ c.as_slice.ensures.bytes c.computed.ensures).0 c.if-not-computed.false

pub returns : goal.returns
returns c = (λ _. (decides_under c.computed.result c.as_slice.result.now _ _ _ c.as_slice.ensures.bytes c.computed.ensures).0 c.if-not-computed.false, λ _. refl)
