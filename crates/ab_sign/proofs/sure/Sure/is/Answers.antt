use Rattle.ab_sign.proofs.KeptLemmas.{verifies_alike}
use Rattle.ab_sign.proofs.sure.Sure.is.Goals as goal

pub returns : goal.returns
returns c = λ t.
    verifies_alike c.self.inside.public _ c.self.inside.content.items _ c.self.inside.sig.items _
    (c.is_equal-under.ensures.0 c.if-not-under.false) (c.has_bytes-stated.ensures.0 t) (c.has_bytes-signed.ensures.0 c.if-not-signed.false) c.self.invariant
