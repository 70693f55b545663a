use Rattle.ab_stable.proofs.WholeCerts.{whole_cert}
use Rattle.ab_stable.proofs.certs.certificates_are_whole.Goals as goal

pub returns : goal.returns
returns c = λ f bad log links votes t enough known told. whole_cert f bad log links votes enough known told t
