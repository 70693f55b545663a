use Rattle.std.proofs.Common.{refl}
use Rattle.ab_run.proofs.examples.a_certificate_commits.Goals as goal

pub returns : goal.returns
returns c = record { cert = refl; before = refl; now = refl }
