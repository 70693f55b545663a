use Rattle.ab_premise.proofs.Spelled.{spells_apart}
use Rattle.ab_premise.proofs.laws.spelled_runs_are_apart.Goals as goal

pub returns : goal.returns
returns g c = λ k proto serves opens inputs form is contents. spells_apart k proto serves opens inputs form is contents
