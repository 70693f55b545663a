use Rattle.ab_sign.proofs.KeyLemmas.{none-verifies}
use Rattle.ab_sign.proofs.signers.Signers.verifies.Goals as goal

pub returns-in-None : goal.returns-in-None
returns-in-None c = none-verifies c.args.self.now c.args.r c.args.text.now c.args.sig.now c.in-None.ensures
