use Rattle.ab_stable.proofs.acts.common_beginnings_are_certified.Goals as goal

pub returns : goal.returns
returns g c = λ x acts front backed each p h has. (backed.certs p h has).agreed front each
