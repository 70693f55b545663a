use Rattle.ab_stable.proofs.CertActs.{valid_cert}
use Rattle.ab_stable.proofs.acts.trimmed_certificates_are_valid.Goals as goal

pub returns : goal.returns
returns c = λ x log links votes t is meets told. valid_cert x log links votes t is meets told
