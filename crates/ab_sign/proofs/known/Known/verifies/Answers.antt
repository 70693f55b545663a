use Rattle.ab_sign.proofs.KeptLemmas.{decides_under}
use Rattle.ab_sign.proofs.known.Known.verifies.Goals as goal

pub returns-else-has : goal.returns-else-has
returns-else-has c = decides_under c.verify_by.result c.as_slice.result.now _ _ _ c.as_slice.ensures.bytes c.verify_by.ensures.verifies
