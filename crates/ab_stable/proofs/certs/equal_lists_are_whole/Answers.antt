use Rattle.ab_stable.proofs.WholeCerts.{equal_cert}
use Rattle.ab_stable.proofs.certs.equal_lists_are_whole.Goals as goal

pub returns : goal.returns
returns c = λ f bad log links votes t enough few known told. equal_cert f bad log links votes enough few known told t
