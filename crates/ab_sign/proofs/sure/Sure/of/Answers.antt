use Rattle.std.proofs.Common.{refl, sym}
use Rattle.ab_sign.proofs.KeptLemmas.{verifies_alike}
use Rattle.ab_sign.proofs.sure.Sure.of.Goals as goal

pub invariant_of-result : goal.invariant_of-result
invariant_of-result c =
    verifies_alike c.args.public.now _ c.args.content.now _ c.args.sig.now _ refl (sym c.in_ok-content.ensures.items) (sym c.in_ok-sig.ensures.items) c.requires
