use Rattle.ab_lms.proofs.Verified.{same-tests}
use Rattle.ab_scheme.specs.Schemes.{VerifiesBy}
use Rattle.ab_scheme.proofs.SchemeLemmas.{verified_by-decides}
use Rattle.ab_sign.proofs.signers.Signers.checks.Goals as goal

pub returns-in-Ok : goal.returns-in-Ok
returns-in-Ok c =
    same-tests _ _ (VerifiesBy c.args.public.now c.args.text.now c.args.sig.now) c.check.ensures
    (verified_by-decides c.args.public.now c.args.text.now c.args.sig.now)
