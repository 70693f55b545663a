use Rattle.std.proofs.Common.{refl, sym}
use Rattle.ab_sign.proofs.KeptLemmas.{verifies_alike}
use Rattle.ab_sign.proofs.signers.Signers.sign_at.Goals as goal

pub learn-requires : goal.learn-requires
learn-requires c =
    verifies_alike _ c.public.result c.args.text.now _ c.in_ok-sig.sig.items _ (sym c.public.ensures) refl (sym c.deref.ensures.value) c.in_ok-sig.ensures.verifies
